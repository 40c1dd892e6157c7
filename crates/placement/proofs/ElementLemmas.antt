-- Each element of an array is owned by one rank.
use Rattle.std.proofs.Common.{◌≡◌, ℕ, zero, suc, ◌*◌, ◌/◌, ◌%◌, ◌<◌, List, length, get_or, All, sym, ap, ◌∙◌, subst, arith}
use Rattle.std.proofs.Math.Nat.{zero-add, mod-lt, mul-zero}
use Rattle.std.specs.List.{range_with_len}
use Rattle.std.proofs.lemmas.List.FromFn.{get_or-range_with_len, length-range_with_len}
use Rattle.std.proofs.lemmas.Nat.{div_below, div-mul-add, mod-mul-add}
use Rattle.bern_base.specs.declared.axes.Axis.{Axis}
use Rattle.bern_base.specs.declared.axes.Axis.TheVariants.{Row, Col, Both}
use Rattle.bern_base.specs.declared.matrix.Entry.{Entry}
use Rattle.bern_base.specs.Matrix.{number, IsInside}
use Rattle.placement.specs.Placement.{Triple, IsPlacement, owner_of}
use Rattle.placement.specs.PlacementLaws.{owner-below}
use Rattle.placement.specs.Part.{extent_on, owner_of_entry}
use Rattle.placement.specs.Elements.{element_index, owner_of_element, ElementsAreOwnedOnce}
use Rattle.placement.proofs.ShareLemmas.{by_key-permutation}

some_column : (n rows cols : ℕ) → n < rows * cols → 0 < cols
some_column n rows zero below = let none : rows * 0 ≡ 0 = mul-zero rows in omega (arith, none, below)
some_column n rows (suc cols) below = omega arith

element_index-below : (axis : Axis) (ts : List Triple) (rows cols n : ℕ) → extent_on axis rows cols ≡ length ts → n < rows * cols → element_index axis cols n < length ts
element_index-below Row ts rows cols n extent below = subst (λ m. n / cols < m) extent (div_below n cols rows (some_column n rows cols below) below)
element_index-below Col ts rows cols n extent below = subst (λ m. n % cols < m) extent (mod-lt n (some_column n rows cols below))
element_index-below Both ts rows cols n extent below = subst (λ m. n / cols < m) extent (div_below n cols rows (some_column n rows cols below) below)

owners : (axis : Axis) (ranks : ℕ) (ts : List Triple) (rows cols : ℕ) → IsPlacement ranks ts → extent_on axis rows cols ≡ length ts → All (λ n. owner_of_element axis ts cols n < ranks) (range_with_len 0 (rows * cols))
owners axis ranks ts rows cols is extent k d within =
    let below : k < rows * cols = subst (λ m. k < m) (length-range_with_len 0 (rows * cols)) within in
    let at : get_or (range_with_len 0 (rows * cols)) k d ≡ k = get_or-range_with_len 0 (rows * cols) k d below ∙ zero-add k in
    subst (λ n. owner_of_element axis ts cols n < ranks) (sym at) (owner-below is (element_index axis cols k) (element_index-below axis ts rows cols k extent below))

entry_owner : (axis : Axis) (ts : List Triple) (rows cols : ℕ) (e : Entry) → IsInside rows cols e → owner_of_element axis ts cols (number cols e) ≡ owner_of_entry axis ts e
entry_owner Row ts rows cols e inside = ap (owner_of ts) (div-mul-add e.row cols e.col inside.1)
entry_owner Col ts rows cols e inside = ap (owner_of ts) (mod-mul-add e.row cols e.col inside.1)
entry_owner Both ts rows cols e inside = ap (owner_of ts) (div-mul-add e.row cols e.col inside.1)

pub elements-are-owned-once : ElementsAreOwnedOnce
elements-are-owned-once axis ranks ts rows cols is extent = record {
  once = by_key-permutation (owner_of_element axis ts cols) ranks (range_with_len 0 (rows * cols)) (owners axis ranks ts rows cols is extent);
  entry = entry_owner axis ts rows cols;
}
