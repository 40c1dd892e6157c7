-- What the calls of a view read: indices of the part and of the array, and the children at them.
use Rattle.std.proofs.Common.{◌≡◌, ℕ, zero, suc, ◌+◌, ◌*◌, ◌/◌, ◌%◌, ◌^◌, ◌<◌, ◌≤◌, ◌==◌, List, [], ◌∷◌, None, Some, refl, sym, ap, ◌∙◌, subst, ⊎_elim, arith}
use Rattle.std.specs.Prelude.{◌≢◌}
use Rattle.std.specs.List.{All}
use Rattle.std.proofs.Math.Nat.{div-add-mod', mod-lt, mul-le-mul}
use Rattle.std.proofs.lemmas.Bool.{cases_eq, cond-false, cond-true, eq-eqb, ne_eqb}
use Rattle.std.proofs.lemmas.List.Elements.{All-head, All-tail}
use Rattle.bern_base.specs.declared.axes.Axis.{Axis}
use Rattle.bern_base.specs.declared.axes.Axis.TheVariants as axis
use Rattle.format_model.specs.Trees.{child_at}
use Rattle.local_views.specs.Views.{Cut, IsCut, IsElsewhere, IsInCut, IsLocal, IsOwnBy, col_by, cut_of, global_index, moved_children, own_cols, row_by}
use Rattle.placement.specs.Placement.{Triple, owned_of}
use Rattle.local_views.specs.ViewLaws.{index_once}

-- ---- children

-- searching for an index of the array is searching for that of the part
pub moved_found : (cut : Cut) (level : Axis) (index local : ℕ) (cs : List (ℕ × ℕ)) → IsCut cut → IsLocal cut level index local → All (λ c. IsInCut cut level c.0) cs
    → child_at cs local ≡ child_at (moved_children (global_index cut level) cs) index
moved_found cut level index local [] is here all = refl
moved_found cut level index local (c ∷ cs) is here all =
    let f : ℕ → ℕ = global_index cut level in
    let rest : child_at cs local ≡ child_at (moved_children f cs) index = moved_found cut level index local cs is here (All-tail (λ c. IsInCut cut level c.0) c cs all) in ⊎_elim
    (λ (same : c.0 ≡ local).
    cond-true (c.0 == local) (Some c.1) (child_at cs local) (eq-eqb c.0 local same)
    ∙ sym (cond-true (f c.0 == index) (Some c.1) (child_at (moved_children f cs) index) (eq-eqb (f c.0) index (ap f same ∙ here.is))))
    (λ (other : c.0 ≡ local → ⊥).
    cond-false (c.0 == local) (Some c.1) (child_at cs local) (ne_eqb c.0 local other) ∙ rest
    ∙ sym (cond-false (f c.0 == index) (Some c.1) (child_at (moved_children f cs) index) (ne_eqb (f c.0) index (λ alike. other (index_once cut is level c.0 local (All-head (λ c. IsInCut cut level c.0) c cs all) here.inside (alike ∙ sym here.is))))))
    (cases_eq c.0 local)

pub moved_none : (cut : Cut) (level : Axis) (index : ℕ) (cs : List (ℕ × ℕ)) → IsElsewhere cut level index → All (λ c. IsInCut cut level c.0) cs
    → None ≡ child_at (moved_children (global_index cut level) cs) index
moved_none cut level index [] away all = refl
moved_none cut level index (c ∷ cs) away all =
    let f : ℕ → ℕ = global_index cut level in
    moved_none cut level index cs away (All-tail (λ c. IsInCut cut level c.0) c cs all)
    ∙ sym (cond-false (f c.0 == index) (Some c.1) (child_at (moved_children f cs) index) (ne_eqb (f c.0) index (away c.0 (All-head (λ c. IsInCut cut level c.0) c cs all))))

-- ---- element numbers

-- indices that rise are no less than their places
at_least : (owned : ℕ) (g : ℕ → ℕ) → ((k l : ℕ) → k < l → l < owned → g k < g l) → (l : ℕ) → l < owned → l ≤ g l
at_least owned g rises zero low = omega arith
at_least owned g rises (suc l) low =
    let before : l ≤ g l = at_least owned g rises l (omega arith) in
    let up : g l < g (suc l) = rises l (suc l) (omega arith) low in omega arith

-- a part has no more columns than the array, and a column of it is no less in the array
col_least : (a : Axis) (owned : ℕ) (g : ℕ → ℕ) → ((k l : ℕ) → k < l → l < owned → g k < g l) → (col : ℕ) → IsOwnBy a axis.Col owned col → col ≤ col_by a g col
col_least axis.Row owned g rises col own = omega arith
col_least axis.Col owned g rises col own = at_least owned g rises col own
col_least axis.Both owned g rises col own = omega arith

-- what the columns of a part are
pub record HasColumns (cut : Cut) : Type 0 where
  pub side : cut.axis ≢ axis.Both
  pub is : IsCut cut
  pub by_row : cut.axis ≡ axis.Row → (cut.own ≡ cut.cols) × (cut.owned < 2 ^ 32)
  pub by_col : cut.axis ≡ axis.Col → cut.own ≡ cut.owned
  pub narrow : cut.cols < 2 ^ 32

own_narrow : (cut : Cut) → HasColumns cut → (a : Axis) → cut.axis ≡ a → cut.own ≤ cut.cols
own_narrow cut h axis.Row by = omega (arith, (h.by_row by).0)
own_narrow cut h axis.Col by = narrow cut.own refl
  where
    narrow : (n : ℕ) → n ≡ cut.own → cut.own ≤ cut.cols
    narrow zero is = omega arith
    narrow (suc n) is =
        let low : n < cut.own = omega arith in
        let least : n ≤ cut.global n = at_least cut.owned cut.global h.is.rises n (omega (arith, low, h.by_col by)) in
        let most : cut.global n < cut.cols = subst (λ a. col_by a cut.global n < cut.cols) by (h.is.narrow n low) in omega arith
own_narrow cut h axis.Both by = absurd (h.side by)

col_below : (cut : Cut) → HasColumns cut → (a : Axis) → cut.axis ≡ a → (index col : ℕ) → IsLocal cut axis.Col index col → index < cut.cols → col < cut.own
col_below cut h axis.Row by index col local low =
    let same : col ≡ index = subst (λ a. col_by a cut.global col ≡ index) by local.is in omega (arith, same, (h.by_row by).0)
col_below cut h axis.Col by index col local low =
    let own : col < cut.owned = subst (λ a. IsOwnBy a axis.Col cut.owned col) by local.inside in omega (arith, own, h.by_col by)
col_below cut h axis.Both by index col local low = absurd (h.side by)

pub col_in : (cut : Cut) → HasColumns cut → (index col : ℕ) → IsLocal cut axis.Col index col → index < cut.cols → col < cut.own
col_in cut h index col local low = col_below cut h cut.axis refl index col local low

fits_by : (cut : Cut) → HasColumns cut → (a : Axis) → cut.axis ≡ a → (element row col : ℕ) → element < 2 ^ 64 → 0 < cut.cols → IsLocal cut axis.Row (element / cut.cols) row → IsLocal cut axis.Col (element % cut.cols) col
    → row * cut.own + col < 2 ^ 64
fits_by cut h axis.Row by element row col small some above below =
    let own : row < cut.owned = subst (λ a. IsOwnBy a axis.Row cut.owned row) by above.inside in
    let low : col < cut.own = col_in cut h (element % cut.cols) col below (mod-lt element some) in
    let most : row * cut.own ≤ 4294967295 * 4294967295 = mul-le-mul {n₂ = 4294967295} {m₂ = 4294967295} (omega (arith, own, (h.by_row by).1)) (omega (arith, (h.by_row by).0, h.narrow)) in
    omega (arith, most, low, (h.by_row by).0, h.narrow)
fits_by cut h axis.Col by element row col small some above below =
    let same : row ≡ element / cut.cols = subst (λ a. row_by a cut.global row ≡ element / cut.cols) by above.is in
    let least : col ≤ element % cut.cols = omega (arith, col_least cut.axis cut.owned cut.global h.is.rises col below.inside, below.is) in
    let most : row * cut.own ≤ element / cut.cols * cut.cols = mul-le-mul (omega (arith, same)) (own_narrow cut h axis.Col by) in
    omega (arith, most, least, div-add-mod' element cut.cols, small)
fits_by cut h axis.Both by element row col small some above below = absurd (h.side by)

pub element_fits : (cut : Cut) → HasColumns cut → (element row col : ℕ) → element < 2 ^ 64 → 0 < cut.cols → IsLocal cut axis.Row (element / cut.cols) row → IsLocal cut axis.Col (element % cut.cols) col
    → row * cut.own + col < 2 ^ 64
element_fits cut h element row col small some above below = fits_by cut h cut.axis refl element row col small some above below

pub columns_of : (a : Axis) (cols : ℕ) (ts : List Triple) (rank : ℕ) → a ≢ axis.Both → IsCut (cut_of a cols ts rank) → owned_of ts rank < 2 ^ 32 → cols < 2 ^ 32 → HasColumns (cut_of a cols ts rank)
columns_of a cols ts rank side is few narrow = record {
  side = side;
  is = is;
  by_row = λ by. (ap (λ b. own_cols b cols (owned_of ts rank)) by, few);
  by_col = λ by. ap (λ b. own_cols b cols (owned_of ts rank)) by;
  narrow = narrow;
}
