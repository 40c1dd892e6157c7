-- Whole matrices begin with 0 where a sparse array stores nothing.
use Rattle.std.proofs.Common.{◌≡◌, ◌∙◌, ℕ, zero, suc, ◌*◌, ◌/◌, ◌%◌, ◌<◌, Bool, true, false, List, [], ◌∷◌, Option, Some, None, map, get_or, refl, sym, ap, ⊎_elim, arith, zero-add}
use Rattle.std.specs.Prelude.{if◌then◌else◌, slice_get}
use Rattle.std.specs.List.{range_with_len}
use Rattle.std.proofs.lemmas.Bool.{cases_lt}
use Rattle.std.proofs.lemmas.List.{get_or_past}
use Rattle.std.proofs.lemmas.List.FromFn.{get_or-map-range_with_len, length-map-range_with_len}
use Rattle.bern_base.specs.Matrix.{element, values_of}
use Rattle.bern_base.specs.declared.matrix.Entry.{Entry}
use Rattle.bern_base.specs.declared.matrix.Matrix.{Matrix}
use Rattle.bern_base.specs.declared.refusal.Rule.{Rule}
use Rattle.bern_base.specs.declared.refusal.Rule.TheVariants.{F2}
use Rattle.format_model.specs.Checks.{first_of, has_astray, sizes_rule}
use Rattle.format_model.specs.Stored.{is_stored}
use Rattle.job_model.specs.State.{read}
use Rattle.loop_query.proofs.ZeroLemmas.{element_zero, unstored_zero}
use Rattle.term_model.specs.Activity.{stores, stores_in}
use Rattle.whole_laws.specs.HeldLaws.{WholesHoldZeros}
use Rattle.whole_laws.proofs.BuildLemmas.{sides}

no_astray : (first : Option Rule) (astray : Bool) → first_of first (if astray then Some F2 else None) ≡ None → astray ≡ false
no_astray None true passed = absurd cc
no_astray None false passed = refl
no_astray (Some rule) astray passed = absurd cc

value_zero : (rows cols : ℕ) (es : List Entry) (n : ℕ) → element cols es n ≡ 0 → get_or (map (element cols es) (range_with_len 0 (rows * cols))) n 0 ≡ 0
value_zero rows cols es n none = ⊎_elim
    (λ (inside : n < rows * cols). get_or-map-range_with_len (element cols es) 0 (rows * cols) n n 0 inside (zero-add n) ∙ none)
    (λ past. get_or_past (map (element cols es) (range_with_len 0 (rows * cols))) n 0 (omega (arith, length-map-range_with_len (element cols es) 0 (rows * cols), past)))
    (cases_lt n (rows * cols))

mapped_at : {X Y : Type 0} (f : X → Y) (xs : List X) (k : ℕ) (x : X) (d : Y) → slice_get xs k ≡ Some x → get_or (map f xs) k d ≡ f x
mapped_at f [] k x d is = absurd cc
mapped_at f (y ∷ xs) zero x d is = let same : y ≡ x = cc in ap f same
mapped_at f (y ∷ xs) (suc k) x d is = mapped_at f xs k x d is

mapped_past : {X Y : Type 0} (f : X → Y) (xs : List X) (k : ℕ) (d : Y) → slice_get xs k ≡ None → get_or (map f xs) k d ≡ d
mapped_past f [] k d is = refl
mapped_past f (y ∷ xs) zero d is = absurd cc
mapped_past f (y ∷ xs) (suc k) d is = mapped_past f xs k d is

pub wholes-hold-zeros : WholesHoldZeros
wholes-hold-zeros job ms wholes number sparse n unstored = by_matrix (slice_get ms number) refl
  where
    entries : Matrix → List Entry
    entries m = m.entries

    by_matrix : (found : Option Matrix) → slice_get ms number ≡ found → read (map values_of ms) number n ≡ 0
    by_matrix None is = ap (λ vs. get_or vs n 0) (mapped_past values_of ms number [] is)
    by_matrix (Some m) is =
        let w = wholes number m is in
        let sizes = sides w.array w.format w.ranks w.order m w.whole in
        let here : is_stored w.format.shape m.entries (n / m.cols) (n % m.cols) ≡ false =
        ap (λ c. is_stored w.format.shape m.entries (n / c) (n % c)) sizes.1
        ∙ sym (ap (λ es. stores_in job es (slice_get job.arrays number) n) (mapped_at entries ms number m [] is)
        ∙ ap (λ a. stores_in job m.entries a n) w.array_is ∙ ap (λ f. stores m.entries w.array f n) w.format_is)
        ∙ unstored in
        ap (λ vs. get_or vs n 0) (mapped_at values_of ms number m [] is)
        ∙ value_zero m.rows m.cols m.entries n
        (element_zero m.cols m.entries n
        (unstored_zero w.format.shape m.rows m.cols m.entries n w.whole.matrix.inside (no_astray (sizes_rule w.array.rows w.array.cols m) (has_astray w.format.shape m.entries) w.whole.checked) here))
