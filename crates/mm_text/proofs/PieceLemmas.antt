-- A file in pieces: its lines are those of the pieces put together.
use Rattle.std.proofs.Common.{◌≡◌, ℕ, ◌+◌, ◌<◌, ◌≤◌, Bool, false, List, [], ◌∷◌, ◌++◌, length, take, drop, map, refl, sym, ap, ◌∙◌, inl, inr, arith, Some, None, append_assoc}
use Rattle.std.specs.Prelude.{position, Option}
use Rattle.std.specs.List.{position_or_len, list_any}
use Rattle.std.proofs.lemmas.Bool.{cases_Bool, cases_lt, or_from, eqb-true, lt-ltb, le-ltb, false_from_ne_true}
use Rattle.std.proofs.lemmas.List.Sums.{position_or_len_is}
use Rattle.memchr.specs.Find.{IsFirstByte, is_byte}
use Rattle.std.proofs.lemmas.List.{append-nil, drop_more, take-append-drop, get_or-take, length-take}
use Rattle.std.proofs.lemmas.List.Quantifiers.{position-Some}
use Rattle.std.proofs.lemmas.List.Folds.{list_any-append, list_any_none}
use Rattle.mm_profile.specs.Lines.{is_line_feed, lines, without_return}
use Rattle.mm_text.specs.declared.stage.Stage.{Stage}
use Rattle.mm_text.specs.Stages.{outcome, Steps}
use Rattle.mm_text.proofs.LinesLemmas.{cut_found, cut_whole}

-- a line and those after it
pub lines_found : (front rest : List ℕ) → list_any is_line_feed front ≡ false → lines (front ++ 10 ∷ rest) ≡ without_return front ∷ lines rest
lines_found front rest none = ap (map without_return) (cut_found is_line_feed front 10 rest none refl)

-- the lines of a piece that is split
pub lines_split : (piece line after more : List ℕ) → list_any is_line_feed line ≡ false → piece ≡ line ++ 10 ∷ after → lines (piece ++ more) ≡ without_return line ∷ lines (after ++ more)
lines_split piece line after more none is =
    ap (λ bytes. lines (bytes ++ more)) is ∙ ap lines (append_assoc line (10 ∷ after) more) ∙ lines_found line (after ++ more) none

-- a last line that lacks its line feed
pub lines_whole : (line : List ℕ) → 0 < length line → list_any is_line_feed line ≡ false → lines (line ++ []) ≡ without_return line ∷ []
lines_whole [] some none = absurd (omega arith)
lines_whole (b ∷ line) some none = ap lines (append-nil (b ∷ line)) ∙ ap (map without_return) (cut_whole is_line_feed b line none)

-- the end of a line that is begun
pub ends_line : (stage after : Stage) (n : ℕ) (line end : List ℕ) → list_any is_line_feed line ≡ false → list_any is_line_feed end ≡ false → Steps stage n (without_return (line ++ end)) after
    → (more : List ℕ) → outcome stage n (lines (line ++ (end ++ 10 ∷ more))) ≡ outcome after (n + 1) (lines more)
ends_line stage after n line end none_in_line none_in_end steps more =
    let none : list_any is_line_feed (line ++ end) ≡ false = list_any-append is_line_feed line end ∙ or_from _ _ none_in_line none_in_end in
    ap (λ bytes. outcome stage n (lines bytes)) (sym (append_assoc line end (10 ∷ more))) ∙ ap (outcome stage n) (lines_found (line ++ end) more none) ∙ steps (lines more)

-- no byte passes where none is found
pub list_any-None : (p : ℕ → Bool) (xs : List ℕ) → position p xs ≡ None → list_any p xs ≡ false
list_any-None p xs none = elim (cases_lt (position_or_len p xs) (length xs)) [ inl below ↦ absurd (found below) | inr above ↦ past xs above ]
  where
    found : position_or_len p xs < length xs → ⊥
    found below = let some : position p xs ≡ Some (position_or_len p xs) = rw (lt-ltb _ _ below) refl in cc

    past : (ys : List ℕ) → length ys ≤ position_or_len p ys → list_any p ys ≡ false
    past [] above = refl
    past (y ∷ ys) above = elim (cases_Bool (p y)) [ inl e ↦ absurd (omega (arith, rw e at above)) | inr e ↦ rw e (past ys (omega (arith, rw e at above))) ]

-- what `memchr` finds is the first place
pub position-from_first : (b : ℕ) (xs : List ℕ) (r : Option ℕ) → IsFirstByte (is_byte b) xs r → r ≡ position (is_byte b) xs
position-from_first b xs None nowhere =
    let none : position_or_len (is_byte b) xs ≡ length xs = position_or_len_is (is_byte b) xs (length xs) 0 (omega arith) (λ k below. false_from_ne_true _ (nowhere k (omega arith) below)) (λ past. absurd (omega (arith, past))) in
    rw none (rw (le-ltb (length xs) (length xs) (omega arith)) refl)
position-from_first b xs (Some k) found =
    let at : position_or_len (is_byte b) xs ≡ k = position_or_len_is (is_byte b) xs k 0 (omega (arith, found.0.high)) (λ j below. false_from_ne_true _ (found.0.before j (omega arith) below)) (λ past. found.1) in
    rw at (rw (lt-ltb k (length xs) found.0.high) refl)

-- a piece up to its first line feed, and what stands after that
pub record SplitsAt (piece : List ℕ) (i : ℕ) : Type 0 where
  pub within : i < length piece
  pub front : list_any is_line_feed (take i piece) ≡ false
  pub is : piece ≡ take i piece ++ 10 ∷ drop (i + 1) piece

pub splits_at : (piece : List ℕ) (i : ℕ) → position is_line_feed piece ≡ Some i → SplitsAt piece i
splits_at piece i found =
    let facts = position-Some is_line_feed piece i 0 found in
    record {
      within = facts.0;
      front = list_any_none is_line_feed (take i piece) (λ k d below.
          let inside : k < i = omega (arith, below, length-take i piece) in
          rw (get_or-take i piece k d inside) ((position-Some is_line_feed piece i d found).2 k inside));
      is = sym (take-append-drop i piece) ∙ ap (λ rest. take i piece ++ rest) (drop_more piece i 0 facts.0 ∙ ap (λ b. b ∷ drop (i + 1) piece) (eqb-true _ _ facts.1));
    }
