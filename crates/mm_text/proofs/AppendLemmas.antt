-- Texts that grow at their end, and lists made from a range that grows by one.
use Rattle.std.proofs.Common.{◌≡◌, ℕ, ◌+◌, List, [], ◌∷◌, ◌++◌, length, drop, sym, ap, ◌∙◌, subst, append_assoc, zero-add, add-zero, add-one, zero, suc, arith}
use Rattle.std.proofs.Math.Seq.{take-append_seam}
use Rattle.std.proofs.lemmas.List.{take-append-drop, flat_map_more}
use Rattle.std.specs.Io.{StartsWith}
use Rattle.std.specs.List.{flat_map, range_with_len}

pub starts_with_append : (old more : List ℕ) → StartsWith (old ++ more) old
starts_with_append old more = take-append_seam old more

-- a text that begins with another is that one and what stands behind it
parted : (text front : List ℕ) → StartsWith text front → text ≡ front ++ drop (length front) text
parted text front starts = sym (take-append-drop (length front) text) ∙ ap (λ t. t ++ drop (length front) text) starts

pub starts_with_again : (new mid old : List ℕ) → StartsWith new mid → StartsWith mid old → StartsWith new old
starts_with_again new mid old last first =
    let back : List ℕ = drop (length old) mid ++ drop (length mid) new in
    let whole : new ≡ old ++ back =
    parted new mid last ∙ ap (λ t. t ++ drop (length mid) new) (parted mid old first) ∙ append_assoc old (drop (length old) mid) (drop (length mid) new) in
    subst (λ t. StartsWith t old) (sym whole) (starts_with_append old back)

-- one more of a range at the end
range_more_from : (a n : ℕ) → range_with_len a (n + 1) ≡ range_with_len a n ++ (a + n) ∷ []
range_more_from a zero = ap (λ k. k ∷ []) (sym (add-zero a))
range_more_from a (suc n) =
    rw (add-one (suc n)) (ap (λ xs. a ∷ xs) (subst (λ k. range_with_len (a + 1) k ≡ range_with_len (a + 1) n ++ (a + suc n) ∷ []) (add-one n) (range_more_from (a + 1) n ∙ ap (λ k. range_with_len (a + 1) n ++ k ∷ []) (shift a n))))
  where
    shift : (a n : ℕ) → a + 1 + n ≡ a + suc n
    shift a n = omega arith

pub range_more : (n : ℕ) → range_with_len 0 (n + 1) ≡ range_with_len 0 n ++ n ∷ []
range_more n = range_more_from 0 n ∙ ap (λ k. range_with_len 0 n ++ k ∷ []) (zero-add n)

pub flat_map_range_more : {A : Type 0} (f : ℕ → List A) → (start : List A) (n : ℕ) → (start ++ flat_map f (range_with_len 0 n)) ++ f n ≡ start ++ flat_map f (range_with_len 0 (n + 1))
flat_map_range_more f start n = flat_map_more f start (range_with_len 0 n) n ∙ ap (λ xs. start ++ flat_map f xs) (sym (range_more n))
