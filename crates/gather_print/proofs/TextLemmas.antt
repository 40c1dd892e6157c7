-- Texts that grow by one piece of a table or of a list.
use Rattle.std.proofs.Common.{◌≡◌, ◌∙◌, ℕ, ◌+◌, ◌<◌, List, [], ◌∷◌, ◌++◌, take, length, get_or, sym, ap}
use Rattle.std.specs.List.{flat_map, range_with_len}
use Rattle.std.proofs.lemmas.List.{flat_map_more, take_more}
use Rattle.placement.specs.PlacementLaws.{range_more}

-- one piece of a table more
pub table_piece : (g : ℕ → List ℕ) (before out new : List ℕ) (n : ℕ) → out ≡ before ++ flat_map g (range_with_len 0 n) → new ≡ out ++ g n →
    new ≡ before ++ flat_map g (range_with_len 0 (n + 1))
table_piece g before out new n are is =
    is ∙ ap (λ o. o ++ g n) are ∙ flat_map_more g before (range_with_len 0 n) n ∙ ap (λ xs. before ++ flat_map g xs) (sym (range_more n))

-- the piece of one item more
pub item_piece : {X : Type 0} (g : X → List ℕ) (before out new : List ℕ) (items : List X) (i : ℕ) (x : X) → i < length items → x ≡ get_or items i x →
    out ≡ before ++ flat_map g (take i items) → new ≡ out ++ g x → new ≡ before ++ flat_map g (take (i + 1) items)
item_piece g before out new items i x low here are is =
    is ∙ ap (λ o. o ++ g x) are ∙ flat_map_more g before (take i items) x
    ∙ ap (λ y. before ++ flat_map g (take i items ++ y ∷ [])) here ∙ ap (λ xs. before ++ flat_map g xs) (sym (take_more items i x low))
