use Rattle.std.proofs.Common.{option_map, refl, ap, ◌∙◌, length, ◌-◌, take, drop}
use Rattle.std.specs.Prelude.{option_and_then}
use Rattle.std.proofs.lemmas.Result.{err_from_is_err_and}
use Rattle.bern_base.specs.declared.raw.Form.TheVariants as form
use Rattle.job_text.specs.WordReading.{name_of, kind_of, place_of}
use Rattle.job_text.proofs.ShapeLemmas.{front_two}
use Rattle.job_text.proofs.StopLemmas.{gives_err}
use Rattle.job_text.proofs.forms.place.Goals as goal

pub returns-in_err-name-in-len2-up : goal.returns-in_err-name-in-len2-up
unfolding place_of
returns-in_err-name-in-len2-up c =
    let is = front_two c.args.words.now c.name-item.result c.extent-item.result c.bytes.result.now c.extent-item.result c.in-len2-up.len_at_least c.name-item.is c.extent-item.is c.bytes.ensures refl in
    gives_err (λ form. form) c.from_residual.result c.in_err-name-in-len2-up.field-0.0 (name_of c.bytes.result.now) (place_of c.args.words.now) (err_from_is_err_and c.from_residual.result c.from_residual.ensures.1) c.in_err-name-in-len2-up.ensures
    (λ none. ap place_of is ∙ ap (option_and_then (λ n. option_and_then (λ e. option_map (form.Place n e) (kind_of (take (length c.args.words.now - 2) (drop 2 c.args.words.now)))) (name_of c.extent-item.result))) none)

pub returns-in_err-extent-in-len2-up : goal.returns-in_err-extent-in-len2-up
unfolding place_of
returns-in_err-extent-in-len2-up c =
    let is = front_two c.args.words.now c.name-item.result c.extent-item.result c.bytes.result.now c.bytes-in-len2-up.result.now c.in-len2-up.len_at_least c.name-item.is c.extent-item.is c.bytes.ensures c.bytes-in-len2-up.ensures in
    gives_err (λ form. form) c.from_residual-in_err-extent-in-len2-up.result c.in_err-extent-in-len2-up.field-0.0 (name_of c.bytes-in-len2-up.result.now) (place_of c.args.words.now) (err_from_is_err_and c.from_residual-in_err-extent-in-len2-up.result c.from_residual-in_err-extent-in-len2-up.ensures.1) c.in_err-extent-in-len2-up.ensures
    (λ none. ap place_of is ∙ ap (option_and_then (λ n. option_and_then (λ e. option_map (form.Place n e) (kind_of (take (length c.args.words.now - 2) (drop 2 c.args.words.now)))) (name_of c.bytes-in-len2-up.result.now))) c.in_ok-name-in-len2-up.ensures ∙ ap (option_and_then (λ e. option_map (form.Place c.in_ok-name-in-len2-up.name e) (kind_of (take (length c.args.words.now - 2) (drop 2 c.args.words.now))))) none)

pub returns-in_err-kind-in-len2-up : goal.returns-in_err-kind-in-len2-up
unfolding place_of
returns-in_err-kind-in-len2-up c =
    let is = front_two c.args.words.now c.name-item.result c.extent-item.result c.bytes.result.now c.bytes-in-len2-up.result.now c.in-len2-up.len_at_least c.name-item.is c.extent-item.is c.bytes.ensures c.bytes-in-len2-up.ensures in
    gives_err (λ form. form) c.from_residual-in_err-kind-in-len2-up.result c.in_err-kind-in-len2-up.field-0.0 (kind_of (take (length c.args.words.now - 2) (drop 2 c.args.words.now))) (place_of c.args.words.now) (err_from_is_err_and c.from_residual-in_err-kind-in-len2-up.result c.from_residual-in_err-kind-in-len2-up.ensures.1) c.in_err-kind-in-len2-up.ensures
    (λ none. ap place_of is ∙ ap (option_and_then (λ n. option_and_then (λ e. option_map (form.Place n e) (kind_of (take (length c.args.words.now - 2) (drop 2 c.args.words.now)))) (name_of c.bytes-in-len2-up.result.now))) c.in_ok-name-in-len2-up.ensures ∙ ap (option_and_then (λ e. option_map (form.Place c.in_ok-name-in-len2-up.name e) (kind_of (take (length c.args.words.now - 2) (drop 2 c.args.words.now))))) c.in_ok-extent-in-len2-up.ensures ∙ ap (option_map (form.Place c.in_ok-name-in-len2-up.name c.in_ok-extent-in-len2-up.extent)) none)

pub returns-in_ok-kind-in-len2-up : goal.returns-in_ok-kind-in-len2-up
unfolding place_of
returns-in_ok-kind-in-len2-up c =
    let is = front_two c.args.words.now c.name-item.result c.extent-item.result c.bytes.result.now c.bytes-in-len2-up.result.now c.in-len2-up.len_at_least c.name-item.is c.extent-item.is c.bytes.ensures c.bytes-in-len2-up.ensures in
    ap place_of is ∙ ap (option_and_then (λ n. option_and_then (λ e. option_map (form.Place n e) (kind_of (take (length c.args.words.now - 2) (drop 2 c.args.words.now)))) (name_of c.bytes-in-len2-up.result.now))) c.in_ok-name-in-len2-up.ensures ∙ ap (option_and_then (λ e. option_map (form.Place c.in_ok-name-in-len2-up.name e) (kind_of (take (length c.args.words.now - 2) (drop 2 c.args.words.now))))) c.in_ok-extent-in-len2-up.ensures ∙ ap (option_map (form.Place c.in_ok-name-in-len2-up.name c.in_ok-extent-in-len2-up.extent)) c.in_ok-kind-in-len2-up.ensures
