-- Each part of an array line that is read leaves the next ones to be read; one that is none leaves no form.
use Rattle.std.proofs.Common.{rules, ◌≡◌, ◌≤◌, ◌-◌, ℕ, true, Some, None, List, length, get_or, take, drop, refl, sym, ap, ◌∙◌}
use Rattle.std.specs.Prelude.{option_and_then, codes}
use Rattle.std.specs.Str.{bytes_eq}
use Rattle.std.proofs.lemmas.Bool.{cond-true}
use Rattle.std.proofs.lemmas.Result.{err_from_is_err_and}
use Rattle.job_text.specs.WordReading.{name_of, axis_of, extents_of, source_of, sized_of, array_of}
use Rattle.job_text.proofs.ShapeLemmas.{front_six}
use Rattle.job_text.proofs.StopLemmas.{gives_err}
use Rattle.job_text.proofs.forms.array.Goals as goal

array_parts : (ws : List (List ℕ)) (name sizes format side by place : List ℕ) → 6 ≤ length ws → name ≡ get_or ws 0 name → sizes ≡ get_or ws 1 sizes → format ≡ get_or ws 2 format → side ≡ get_or ws 3 side → by ≡ get_or ws 4 by → place ≡ get_or ws 5 place → bytes_eq by (codes "by") ≡ true → array_of ws ≡ option_and_then (sized_of sizes format side place (take (length ws - 6) (drop 6 ws))) (name_of name)
unfolding array_of
array_parts ws name sizes format side by place some i0 i1 i2 i3 i4 i5 is =
    ap array_of (front_six ws name sizes format side by place some i0 i1 i2 i3 i4 i5) ∙ cond-true (bytes_eq by (codes "by")) (option_and_then (sized_of sizes format side place (take (length ws - 6) (drop 6 ws))) (name_of name)) None is

pub returns-in_err-name-in-len6-up : goal.returns-in_err-name-in-len6-up
returns-in_err-name-in-len6-up c =
    let by : bytes_eq c.bytes.result.now (codes "by") ≡ true = sym c.is.ensures ∙ c.if-is.true in
    let parts = array_parts c.args.words.now c.name-item.result c.sizes-item.result c.format-item.result c.side-item.result c.by-item.result c.place-item.result c.in-len6-up.len_at_least
    c.name-item.is c.sizes-item.is c.format-item.is c.side-item.is c.by-item.is c.place-item.is (ap (λ w. bytes_eq w (codes "by")) (sym c.bytes.ensures) ∙ by) in
    gives_err (λ form. form) c.from_residual.result c.in_err-name-in-len6-up.field-0.0 (name_of c.bytes-then-is.result.now) (array_of c.args.words.now) (err_from_is_err_and c.from_residual.result c.from_residual.ensures.1) c.in_err-name-in-len6-up.ensures
    (λ none. let last : name_of c.name-item.result ≡ None = ap name_of (sym c.bytes-then-is.ensures) ∙ none in rw (parts, last) refl)

pub returns-in_err-extents-in-len6-up : goal.returns-in_err-extents-in-len6-up
returns-in_err-extents-in-len6-up c =
    let by : bytes_eq c.bytes.result.now (codes "by") ≡ true = sym c.is.ensures ∙ c.if-is.true in
    let parts = array_parts c.args.words.now c.name-item.result c.sizes-item.result c.format-item.result c.side-item.result c.by-item.result c.place-item.result c.in-len6-up.len_at_least
    c.name-item.is c.sizes-item.is c.format-item.is c.side-item.is c.by-item.is c.place-item.is (ap (λ w. bytes_eq w (codes "by")) (sym c.bytes.ensures) ∙ by) in
    let name : name_of c.name-item.result ≡ Some c.in_ok-name-in-len6-up.name = ap name_of (sym c.bytes-then-is.ensures) ∙ c.in_ok-name-in-len6-up.ensures in
    gives_err (λ form. form) c.from_residual-in_err-extents-in-len6-up.result c.in_err-extents-in-len6-up.field-0.0 (extents_of c.bytes-then-is-2.result.now) (array_of c.args.words.now) (err_from_is_err_and c.from_residual-in_err-extents-in-len6-up.result c.from_residual-in_err-extents-in-len6-up.ensures.1) c.in_err-extents-in-len6-up.ensures
    (λ none. let last : extents_of c.sizes-item.result ≡ None = ap extents_of (sym c.bytes-then-is-2.ensures) ∙ none in rw (parts, name, last) refl)

pub returns-in_err-format-in-len6-up : goal.returns-in_err-format-in-len6-up
returns-in_err-format-in-len6-up c =
    let by : bytes_eq c.bytes.result.now (codes "by") ≡ true = sym c.is.ensures ∙ c.if-is.true in
    let parts = array_parts c.args.words.now c.name-item.result c.sizes-item.result c.format-item.result c.side-item.result c.by-item.result c.place-item.result c.in-len6-up.len_at_least
    c.name-item.is c.sizes-item.is c.format-item.is c.side-item.is c.by-item.is c.place-item.is (ap (λ w. bytes_eq w (codes "by")) (sym c.bytes.ensures) ∙ by) in
    let name : name_of c.name-item.result ≡ Some c.in_ok-name-in-len6-up.name = ap name_of (sym c.bytes-then-is.ensures) ∙ c.in_ok-name-in-len6-up.ensures in
    let extents : extents_of c.sizes-item.result ≡ Some c.in_ok-extents-in-len6-up.extents = ap extents_of (sym c.bytes-then-is-2.ensures) ∙ c.in_ok-extents-in-len6-up.ensures in
    gives_err (λ form. form) c.from_residual-in_err-format-in-len6-up.result c.in_err-format-in-len6-up.field-0.0 (name_of c.bytes-then-is-3.result.now) (array_of c.args.words.now) (err_from_is_err_and c.from_residual-in_err-format-in-len6-up.result c.from_residual-in_err-format-in-len6-up.ensures.1) c.in_err-format-in-len6-up.ensures
    (λ none. let last : name_of c.format-item.result ≡ None = ap name_of (sym c.bytes-then-is-3.ensures) ∙ none in rw (parts, name, extents, last) refl)

pub returns-in_err-place-in-len6-up : goal.returns-in_err-place-in-len6-up
returns-in_err-place-in-len6-up c =
    let by : bytes_eq c.bytes.result.now (codes "by") ≡ true = sym c.is.ensures ∙ c.if-is.true in
    let parts = array_parts c.args.words.now c.name-item.result c.sizes-item.result c.format-item.result c.side-item.result c.by-item.result c.place-item.result c.in-len6-up.len_at_least
    c.name-item.is c.sizes-item.is c.format-item.is c.side-item.is c.by-item.is c.place-item.is (ap (λ w. bytes_eq w (codes "by")) (sym c.bytes.ensures) ∙ by) in
    let name : name_of c.name-item.result ≡ Some c.in_ok-name-in-len6-up.name = ap name_of (sym c.bytes-then-is.ensures) ∙ c.in_ok-name-in-len6-up.ensures in
    let extents : extents_of c.sizes-item.result ≡ Some c.in_ok-extents-in-len6-up.extents = ap extents_of (sym c.bytes-then-is-2.ensures) ∙ c.in_ok-extents-in-len6-up.ensures in
    let format : name_of c.format-item.result ≡ Some c.in_ok-format-in-len6-up.format = ap name_of (sym c.bytes-then-is-3.ensures) ∙ c.in_ok-format-in-len6-up.ensures in
    let axis_read : axis_of c.bytes-then-is-4.result.now ≡ Some c.in_ok-axis-in-len6-up.axis = search rules in
    let axis : axis_of c.side-item.result ≡ Some c.in_ok-axis-in-len6-up.axis = ap axis_of (sym c.bytes-then-is-4.ensures) ∙ axis_read in
    gives_err (λ form. form) c.from_residual-in_err-place-in-len6-up.result c.in_err-place-in-len6-up.field-0.0 (name_of c.bytes-then-is-5.result.now) (array_of c.args.words.now) (err_from_is_err_and c.from_residual-in_err-place-in-len6-up.result c.from_residual-in_err-place-in-len6-up.ensures.1) c.in_err-place-in-len6-up.ensures
    (λ none. let last : name_of c.place-item.result ≡ None = ap name_of (sym c.bytes-then-is-5.ensures) ∙ none in rw (parts, name, extents, format, axis, last) refl)

pub returns-in_err-file-in-len6-up : goal.returns-in_err-file-in-len6-up
returns-in_err-file-in-len6-up c =
    let by : bytes_eq c.bytes.result.now (codes "by") ≡ true = sym c.is.ensures ∙ c.if-is.true in
    let parts = array_parts c.args.words.now c.name-item.result c.sizes-item.result c.format-item.result c.side-item.result c.by-item.result c.place-item.result c.in-len6-up.len_at_least
    c.name-item.is c.sizes-item.is c.format-item.is c.side-item.is c.by-item.is c.place-item.is (ap (λ w. bytes_eq w (codes "by")) (sym c.bytes.ensures) ∙ by) in
    let name : name_of c.name-item.result ≡ Some c.in_ok-name-in-len6-up.name = ap name_of (sym c.bytes-then-is.ensures) ∙ c.in_ok-name-in-len6-up.ensures in
    let extents : extents_of c.sizes-item.result ≡ Some c.in_ok-extents-in-len6-up.extents = ap extents_of (sym c.bytes-then-is-2.ensures) ∙ c.in_ok-extents-in-len6-up.ensures in
    let format : name_of c.format-item.result ≡ Some c.in_ok-format-in-len6-up.format = ap name_of (sym c.bytes-then-is-3.ensures) ∙ c.in_ok-format-in-len6-up.ensures in
    let axis_read : axis_of c.bytes-then-is-4.result.now ≡ Some c.in_ok-axis-in-len6-up.axis = search rules in
    let axis : axis_of c.side-item.result ≡ Some c.in_ok-axis-in-len6-up.axis = ap axis_of (sym c.bytes-then-is-4.ensures) ∙ axis_read in
    let place : name_of c.place-item.result ≡ Some c.in_ok-place-in-len6-up.place = ap name_of (sym c.bytes-then-is-5.ensures) ∙ c.in_ok-place-in-len6-up.ensures in
    gives_err (λ form. form) c.from_residual-in_err-file-in-len6-up.result c.in_err-file-in-len6-up.field-0.0 (source_of (take (length c.args.words.now - 6) (drop 6 c.args.words.now))) (array_of c.args.words.now) (err_from_is_err_and c.from_residual-in_err-file-in-len6-up.result c.from_residual-in_err-file-in-len6-up.ensures.1) c.in_err-file-in-len6-up.ensures
    (λ none. rw (parts, name, extents, format, axis, place, none) refl)

pub returns-in_ok-file-in-len6-up : goal.returns-in_ok-file-in-len6-up
returns-in_ok-file-in-len6-up c =
    let by : bytes_eq c.bytes.result.now (codes "by") ≡ true = sym c.is.ensures ∙ c.if-is.true in
    let parts = array_parts c.args.words.now c.name-item.result c.sizes-item.result c.format-item.result c.side-item.result c.by-item.result c.place-item.result c.in-len6-up.len_at_least
    c.name-item.is c.sizes-item.is c.format-item.is c.side-item.is c.by-item.is c.place-item.is (ap (λ w. bytes_eq w (codes "by")) (sym c.bytes.ensures) ∙ by) in
    let name : name_of c.name-item.result ≡ Some c.in_ok-name-in-len6-up.name = ap name_of (sym c.bytes-then-is.ensures) ∙ c.in_ok-name-in-len6-up.ensures in
    let extents : extents_of c.sizes-item.result ≡ Some c.in_ok-extents-in-len6-up.extents = ap extents_of (sym c.bytes-then-is-2.ensures) ∙ c.in_ok-extents-in-len6-up.ensures in
    let format : name_of c.format-item.result ≡ Some c.in_ok-format-in-len6-up.format = ap name_of (sym c.bytes-then-is-3.ensures) ∙ c.in_ok-format-in-len6-up.ensures in
    let axis_read : axis_of c.bytes-then-is-4.result.now ≡ Some c.in_ok-axis-in-len6-up.axis = search rules in
    let axis : axis_of c.side-item.result ≡ Some c.in_ok-axis-in-len6-up.axis = ap axis_of (sym c.bytes-then-is-4.ensures) ∙ axis_read in
    let place : name_of c.place-item.result ≡ Some c.in_ok-place-in-len6-up.place = ap name_of (sym c.bytes-then-is-5.ensures) ∙ c.in_ok-place-in-len6-up.ensures in
    rw (parts, name, extents, format, axis, place, c.in_ok-file-in-len6-up.ensures) refl
