-- Lists of words by their length, and what a chain of readers gives.
use Rattle.std.proofs.Common.{◌≡◌, ◌-◌, ◌<◌, ◌≤◌, List, [], ◌∷◌, length, get_or, take, drop, refl, sym, ap, ◌∙◌, arith}

-- a list of at least so many words, word by word, and the words that follow
pub front_one : {A : Type 0} (xs : List A) (x a : A) → 1 ≤ length xs → x ≡ get_or xs 0 x → a ≡ x → xs ≡ a ∷ take (length xs - 1) (drop 1 xs)
front_one [] x a some is word = absurd (omega arith)
front_one (y ∷ xs) x a some is word =
    let left : length (y ∷ xs) - 1 ≡ length xs = omega arith in
    ap (λ w. w ∷ xs) (sym (word ∙ is)) ∙ ap (λ l. a ∷ l) (sym (take_whole xs)) ∙ ap (λ n. a ∷ take n xs) (sym left)
  where
    take_whole : {A : Type 0} (l : List A) → take (length l) l ≡ l
    take_whole [] = refl
    take_whole (z ∷ l) = ap (λ m. z ∷ m) (take_whole l)

none_left : {A : Type 0} (xs : List A) → length xs < 1 → xs ≡ []
none_left [] few = refl
none_left (x ∷ xs) few = absurd (omega arith)

pub list_one : {A : Type 0} (xs : List A) (x a : A) → 1 ≤ length xs → length xs < 2 → x ≡ get_or xs 0 x → a ≡ x → xs ≡ a ∷ []
list_one [] x a some few is word = absurd (omega arith)
list_one (y ∷ xs) x a some few is word = ap (λ w. w ∷ xs) (sym (word ∙ is)) ∙ ap (λ l. a ∷ l) (none_left xs (omega arith))

pub list_two : {A : Type 0} (xs : List A) (x y a b : A) → 2 ≤ length xs → length xs < 3 → x ≡ get_or xs 0 x → y ≡ get_or xs 1 y → a ≡ x → b ≡ y → xs ≡ a ∷ b ∷ []
list_two [] x y a b some few first second one two = absurd (omega arith)
list_two (z ∷ xs) x y a b some few first second one two = ap (λ w. w ∷ xs) (sym (one ∙ first)) ∙ ap (λ l. a ∷ l) (list_one xs y b (omega arith) (omega arith) second two)

pub front_two : {A : Type 0} (xs : List A) (x y a b : A) → 2 ≤ length xs → x ≡ get_or xs 0 x → y ≡ get_or xs 1 y → a ≡ x → b ≡ y → xs ≡ a ∷ b ∷ take (length xs - 2) (drop 2 xs)
front_two [] x y a b some first second one two = absurd (omega arith)
front_two (z ∷ xs) x y a b some first second one two =
    let left : length (z ∷ xs) - 2 ≡ length xs - 1 = omega arith in
    ap (λ w. w ∷ xs) (sym (one ∙ first)) ∙ ap (λ l. a ∷ l) (front_one xs y b (omega arith) second two) ∙ ap (λ n. a ∷ b ∷ take n (drop 1 xs)) (sym left)

pub front_six : {A : Type 0} (xs : List A) (x0 x1 x2 x3 x4 x5 : A) → 6 ≤ length xs → x0 ≡ get_or xs 0 x0 → x1 ≡ get_or xs 1 x1 → x2 ≡ get_or xs 2 x2 → x3 ≡ get_or xs 3 x3 → x4 ≡ get_or xs 4 x4 → x5 ≡ get_or xs 5 x5 → xs ≡ x0 ∷ x1 ∷ x2 ∷ x3 ∷ x4 ∷ x5 ∷ take (length xs - 6) (drop 6 xs)
front_six [] x0 x1 x2 x3 x4 x5 some i0 i1 i2 i3 i4 i5 = absurd (omega arith)
front_six (y0 ∷ []) x0 x1 x2 x3 x4 x5 some i0 i1 i2 i3 i4 i5 = absurd (omega arith)
front_six (y0 ∷ y1 ∷ []) x0 x1 x2 x3 x4 x5 some i0 i1 i2 i3 i4 i5 = absurd (omega arith)
front_six (y0 ∷ y1 ∷ y2 ∷ []) x0 x1 x2 x3 x4 x5 some i0 i1 i2 i3 i4 i5 = absurd (omega arith)
front_six (y0 ∷ y1 ∷ y2 ∷ y3 ∷ xs) x0 x1 x2 x3 x4 x5 some i0 i1 i2 i3 i4 i5 =
    let left : length (y0 ∷ y1 ∷ y2 ∷ y3 ∷ xs) - 6 ≡ length xs - 2 = omega arith in
    ap (λ w. w ∷ y1 ∷ y2 ∷ y3 ∷ xs) (sym i0) ∙ ap (λ w. x0 ∷ w ∷ y2 ∷ y3 ∷ xs) (sym i1) ∙ ap (λ w. x0 ∷ x1 ∷ w ∷ y3 ∷ xs) (sym i2) ∙ ap (λ w. x0 ∷ x1 ∷ x2 ∷ w ∷ xs) (sym i3)
    ∙ ap (λ l. x0 ∷ x1 ∷ x2 ∷ x3 ∷ l) (front_two xs x4 x5 x4 x5 (omega arith) i4 i5 refl refl) ∙ ap (λ n. x0 ∷ x1 ∷ x2 ∷ x3 ∷ x4 ∷ x5 ∷ take n (drop 2 xs)) (sym left)
