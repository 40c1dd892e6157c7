-- Lists that grow by one.
use Rattle.std.proofs.Common.{◌≡◌, ℕ, zero, suc, ◌+◌, ◌<◌, ◌≤◌, List, [], ◌∷◌, ◌++◌, Some, length, take, get_or, slice_get, sym, ap, ◌∙◌, subst, arith}
use Rattle.std.specs.List.{All, range_with_len}
use Rattle.std.proofs.Math.Seq.{take-length}
use Rattle.std.proofs.lemmas.List.{take_more}
use Rattle.std.proofs.lemmas.List.Elements.{All-push}

pub some_same : {X : Type 0} {x y : X} → Some x ≡ Some y → x ≡ y
some_same same = cc

-- what holds of each item by its number, and of one more by its own
pub each_more : {A : Type 0} (P : ℕ → A → Type 0) (xs : List A) (x : A) → ((r : ℕ) (y : A) → slice_get xs r ≡ Some y → P r y) → P (length xs) x → (r : ℕ) (y : A) → slice_get (xs ++ x ∷ []) r ≡ Some y → P r y
each_more P [] x each here zero y at = subst (P 0) (some_same at) here
each_more P [] x each here (suc r) y at = absurd cc
each_more P (z ∷ zs) x each here zero y at = each zero y at
each_more P (z ∷ zs) x each here (suc r) y at = each_more (λ k. P (suc k)) zs x (λ k w is. each (suc k) w is) here r y at

-- one number more
pub range_push : (a n : ℕ) → range_with_len a (suc n) ≡ range_with_len a n ++ (a + n) ∷ []
range_push a zero = ap (λ (k : ℕ). k ∷ []) (omega arith)
range_push a (suc n) = ap (λ (ys : List ℕ). a ∷ ys) (range_push (a + 1) n ∙ ap (λ k. range_with_len (a + 1) n ++ k ∷ []) (omega arith))

-- what holds of the first items and of the next one
pub taken_more : {X : Type 0} (P : X → Type 0) (items : List X) (i : ℕ) (x : X) → i < length items → x ≡ get_or items i x → All P (take i items) → P x → All P (take (i + 1) items)
taken_more P items i x low is all here =
    subst (All P) (ap (λ y. take i items ++ y ∷ []) is ∙ sym (take_more items i x low)) (All-push P (take i items) x all here)

-- and of all in the end
pub taken_all : {X : Type 0} (P : X → Type 0) (items all : List X) (i : ℕ) → items ≡ all → i ≤ length items → length items ≤ i → All P (take i items) → All P all
taken_all P items all i same most least taken =
    let end : i ≡ length items = omega arith in
    subst (All P) (ap (λ n. take n items) end ∙ take-length items ∙ same) taken
