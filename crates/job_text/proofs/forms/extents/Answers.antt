use Rattle.std.proofs.Common.{◌≡◌, ◌+◌, ◌<◌, ◌≤◌, ℕ, List, length, take, drop, option_map, refl, sym, subst}
use Rattle.std.proofs.lemmas.Bool.{lt-ltb, le-ltb, cond-true, cond-false}
use Rattle.std.proofs.lemmas.Result.{err_from_is_err_and}
use Rattle.job_text.specs.WordReading.{name_of, comma_place, only_extent, both_of, extents_of}
use Rattle.job_text.proofs.StopLemmas.{gives_err}
use Rattle.job_text.proofs.forms.extents.Goals as goal

two_parts : (word : List ℕ) (comma : ℕ) → comma ≡ comma_place word → comma < length word → extents_of word ≡ both_of (take comma word) (drop (comma + 1) word)
unfolding extents_of
two_parts word comma is before = subst (λ n. n < length word → extents_of word ≡ both_of (take n word) (drop (n + 1) word)) (sym is) (λ b. cond-true _ _ _ (lt-ltb (comma_place word) (length word) b)) before

one_part : (word : List ℕ) (comma : ℕ) → comma ≡ comma_place word → length word ≤ comma → extents_of word ≡ option_map only_extent (name_of word)
unfolding extents_of
one_part word comma is past = subst (λ n. length word ≤ n → extents_of word ≡ option_map only_extent (name_of word)) (sym is) (λ b. cond-false _ _ _ (le-ltb (comma_place word) (length word) b)) past

pub returns-in_err-rows : goal.returns-in_err-rows
returns-in_err-rows c =
    let parts = two_parts c.args.word.now c.comma_place-comma.result c.comma_place-comma.ensures c.if-comma-word.true in
    gives_err (λ names. names) c.from_residual.result c.in_err-rows.field-0.0 _ (extents_of c.args.word.now) (err_from_is_err_and c.from_residual.result c.from_residual.ensures.1) c.in_err-rows.ensures (λ none. rw (parts, none) refl)

pub returns-in_err-only : goal.returns-in_err-only
returns-in_err-only c =
    let parts = one_part c.args.word.now c.comma_place-comma.result c.comma_place-comma.ensures c.if-comma-word.false in
    gives_err (λ names. names) c.from_residual-in_err-only.result c.in_err-only.field-0.0 _ (extents_of c.args.word.now) (err_from_is_err_and c.from_residual-in_err-only.result c.from_residual-in_err-only.ensures.1) c.in_err-only.ensures (λ none. rw (parts, none) refl)
