-- The steps of a reader of rising offsets.
use Rattle.std.proofs.Common.{◌≡◌, ℕ, ℤ, Option, Some, None, option_map, List, [], ◌∷◌, ◌++◌, append_assoc, append-nil, refl, sym, ap, ◌∙◌}
use Rattle.std.specs.Prelude.{option_and_then}
use Rattle.job_text.specs.WordReading.{onto, next_offset, offsets_from}

onto-twice : (front more : List ℤ) (read : Option (List ℤ)) → option_map (onto front) (option_map (onto more) read) ≡ option_map (onto (front ++ more)) read
onto-twice front more None = refl
onto-twice front more (Some xs) = ap Some (sym (append_assoc front more xs))

pub onto-nil : (read : Option (List ℤ)) → option_map (onto []) read ≡ read
onto-nil None = refl
onto-nil (Some xs) = refl

module _ (front : List ℤ) (last : Option ℤ) (all : Option (List ℤ)) where
  pub offsets_end : option_map (onto front) (offsets_from last []) ≡ all → all ≡ Some front
  unfolding offsets_from
  offsets_end so_far = sym so_far ∙ ap Some (append-nil front)

  module _ (word : List ℕ) (words : List (List ℕ)) (so_far : option_map (onto front) (offsets_from last (word ∷ words)) ≡ all) where
    pub offsets_fail : next_offset last word ≡ None → all ≡ None
    unfolding offsets_from
    offsets_fail none = sym so_far ∙ ap (λ o. option_map (onto front) (option_and_then (λ next. option_map (onto (next ∷ [])) (offsets_from (Some next) words)) o)) none

    pub offsets_on : (next : ℤ) → next_offset last word ≡ Some next → option_map (onto (front ++ next ∷ [])) (offsets_from (Some next) words) ≡ all
    unfolding offsets_from
    offsets_on next read =
        sym (onto-twice front (next ∷ []) (offsets_from (Some next) words))
        ∙ ap (λ o. option_map (onto front) (option_and_then (λ n. option_map (onto (n ∷ [])) (offsets_from (Some n) words)) o)) (sym read) ∙ so_far
