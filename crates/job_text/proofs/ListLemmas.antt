-- Lists of things that a token leads: the steps of a reader; what is read is spelled so, and what is spelled so is read.
use Rattle.std.proofs.Common.{◌≡◌, ◌≢◌, ◌⊎◌, ℕ, zero, suc, ◌<◌, ◌≤◌, Some, None, List, [], ◌∷◌, ◌++◌, length, length-append, append_assoc, append-nil, refl, sym, ap, subst, ◌∙◌, arith, inl, inr, ⊎_elim}
use Rattle.std.proofs.lemmas.Option.{some_pair_parts}
use Rattle.job_text.specs.declared.tokens.Token.{Token}
use Rattle.job_text.specs.NestReading.{Reads, with_front, list_at, goes_on, carried}
use Rattle.job_text.specs.Grammar.{Spread, Led}

with_front-twice : {A : Type 0} (front more : List A) (read : Reads (List A)) → with_front front (with_front more read) ≡ with_front (front ++ more) read
with_front-twice front more None = refl
with_front-twice front more (Some p) = ap (λ xs. Some (xs, p.1)) (sym (append_assoc front more p.0))

pub with_front-nil : {A : Type 0} (read : Reads (List A)) → with_front [] read ≡ read
with_front-nil None = refl
with_front-nil (Some p) = refl

module _ {A S : Type 0} (one : S → List Token → Reads A) (join : List Token → Reads S) where
  list_fail : (n : ℕ) (s : S) (ts : List Token) → one s ts ≡ None → list_at one join (suc n) s ts ≡ None
  unfolding list_at
  list_fail n s ts none = ap (goes_on one join (list_at one join n)) none

  list_end : (n : ℕ) (s : S) (ts after : List Token) (x : A) → one s ts ≡ Some (x, after) → join after ≡ None → list_at one join (suc n) s ts ≡ Some (x ∷ [], after)
  unfolding list_at
  list_end n s ts after x read last = ap (goes_on one join (list_at one join n)) read ∙ ap (carried one join (list_at one join n) x after) last

  list_on : (n : ℕ) (s next_s : S) (ts after next : List Token) (x : A) → one s ts ≡ Some (x, after) → join after ≡ Some (next_s, next) → list_at one join (suc n) s ts ≡ with_front (x ∷ []) (list_at one join n next_s next)
  unfolding list_at
  list_on n s next_s ts after next x read more = ap (goes_on one join (list_at one join n)) read ∙ ap (carried one join (list_at one join n) x after) more

  pub reads_none : (front : List A) (s : S) (ts : List Token) (all : Reads (List A)) → with_front front (list_at one join 0 s ts) ≡ all → all ≡ None
  unfolding list_at
  reads_none front s ts all so_far = sym so_far

  -- the steps of a loop that has read `front`
  module _ (front : List A) (n : ℕ) (s : S) (ts : List Token) (all : Reads (List A)) (so_far : with_front front (list_at one join (suc n) s ts) ≡ all) where
    pub reads_fail : one s ts ≡ None → all ≡ None
    reads_fail none = sym so_far ∙ ap (with_front front) (list_fail n s ts none)

    pub reads_end : (after : List Token) (x : A) → one s ts ≡ Some (x, after) → join after ≡ None → all ≡ Some (front ++ x ∷ [], after)
    reads_end after x read last = sym so_far ∙ ap (with_front front) (list_end n s ts after x read last)

    pub reads_on : (next_s : S) (after next : List Token) (x : A) → one s ts ≡ Some (x, after) → join after ≡ Some (next_s, next) → with_front (front ++ x ∷ []) (list_at one join n next_s next) ≡ all
    reads_on next_s after next x read more = sym (with_front-twice front (x ∷ []) (list_at one join n next_s next)) ∙ ap (with_front front) (sym (list_on n s next_s ts after next x read more)) ∙ so_far

  goes_on-some : (more : S → List Token → Reads (List A)) (read : Reads A) (xs : List A) (rest : List Token) → goes_on one join more read ≡ Some (xs, rest) → (x : A) × (after : List Token) × (read ≡ Some (x, after)) × (carried one join more x after (join after) ≡ Some (xs, rest))
  goes_on-some more None xs rest is = absurd cc
  goes_on-some more (Some p) xs rest is = (p.0, p.1, refl, is)

  front-some : (x : A) (read : Reads (List A)) (xs : List A) (rest : List Token) → with_front (x ∷ []) read ≡ Some (xs, rest) → (ys : List A) × (read ≡ Some (ys, rest)) × (xs ≡ x ∷ ys)
  front-some x None xs rest is = absurd cc
  front-some x (Some p) xs rest is = let same = some_pair_parts (x ∷ p.0) xs p.1 rest is in (p.0, ap (λ r. Some (p.0, r)) same.1, sym same.0)

  carried-some : (more : S → List Token → Reads (List A)) (x : A) (after : List Token) (joined : Reads S) (xs : List A) (rest : List Token) → carried one join more x after joined ≡ Some (xs, rest) → ((joined ≡ None) × (xs ≡ x ∷ []) × (after ≡ rest)) ⊎ ((s : S) × (next : List Token) × (ys : List A) × (joined ≡ Some (s, next)) × (more s next ≡ Some (ys, rest)) × (xs ≡ x ∷ ys))
  carried-some more x after None xs rest is = let same = some_pair_parts (x ∷ []) xs after rest is in inl (refl, sym same.0, same.1)
  carried-some more x after (Some p) xs rest is = let found = front-some x (more p.0 p.1) xs rest is in inr (p.0, p.1, found.0, refl, found.1, found.2)

  pub list_few : (n : ℕ) (s : S) (ts : List Token) (xs : List A) (rest : List Token) → list_at one join n s ts ≡ Some (xs, rest) → length xs ≤ n
  unfolding list_at
  list_few zero s ts xs rest is = absurd cc
  list_few (suc n) s ts xs rest is =
      let first = goes_on-some (list_at one join n) (one s ts) xs rest is in
      ⊎_elim
      (λ last. rw last.1 (omega arith))
      (λ more. let few = list_few n more.0 more.1 more.2 rest more.4 in rw more.5 (omega arith))
      (carried-some (list_at one join n) first.0 first.1 (join first.1) xs rest first.3)

-- `mark` is the token that leads a thing of this state
module _ {A S : Type 0} (Is : A → List Token → Type 0) (mark : S → Token) (state : A → S) where
  abbrev pub lead : A → Token
  lead x = mark (state x)

  pub spread_few : (xs : List A) (ts : List Token) → Spread (Led lead Is) xs ts → length xs ≤ length ts
  spread_few [] ts is = omega arith
  spread_few (x ∷ xs) ts is =
      let few = spread_few xs is.1 is.4 in
      let whole = ap length is.2 ∙ length-append is.0 is.1 in
      let first = ap length is.3.1 in
      omega arith

  -- a leading token alone spells no list of things that have tokens
  pub spread_some : (some : (x : A) (ts : List Token) → Is x ts → ts ≢ []) (xs : List A) (token : Token) → Spread (Led lead Is) xs (token ∷ []) → ⊥
  spread_some some [] token is = let e = is in cc
  spread_some some (x ∷ xs) token is =
      let whole : token ∷ [] ≡ (lead x ∷ is.3.0) ++ is.1 = is.2 ∙ ap (λ f. f ++ is.1) is.3.1 in
      let none : [] ≡ is.3.0 ++ is.1 = cc in
      some x is.3.0 is.3.2 (front_nil is.3.0 is.1 none)
    where
      front_nil : (a b : List Token) → [] ≡ a ++ b → a ≡ []
      front_nil [] b e = refl
      front_nil (t ∷ a) b e = absurd cc

  pub spread_begins : (x : A) (xs : List A) (ts : List Token) → Spread (Led lead Is) (x ∷ xs) ts → (tail : List Token) × (ts ≡ lead x ∷ tail)
  spread_begins x xs ts is = (is.3.0 ++ is.1, is.2 ∙ ap (λ f. f ++ is.1) is.3.1)

  module _ (one : S → List Token → Reads A) (join : List Token → Reads S) where
    module _ (sound : (s : S) (ts rest : List Token) (x : A) → one s ts ≡ Some (x, rest) → (state x ≡ s) × ((front : List Token) × (ts ≡ front ++ rest) × Is x front)) (joins : (ts rest : List Token) (s : S) → join ts ≡ Some (s, rest) → ts ≡ mark s ∷ rest) where
      whole : (s : S) (ts after rest front back : List Token) → ts ≡ front ++ after → after ≡ back ++ rest → ts ≡ (front ++ back) ++ rest
      whole s ts after rest front back one_is two_is = one_is ∙ ap (λ r. front ++ r) two_is ∙ sym (append_assoc front back rest)

      pub sound_list : (n : ℕ) (s : S) (ts rest : List Token) (xs : List A) → list_at one join n s ts ≡ Some (xs, rest) → (front : List Token) × (ts ≡ front ++ rest) × Spread (Led lead Is) xs (mark s ∷ front)
      unfolding list_at
      sound_list zero s ts rest xs is = absurd cc
      sound_list (suc n) s ts rest xs is =
          let first = goes_on-some one join (list_at one join n) (one s ts) xs rest is in
          let head = sound s ts first.1 first.0 first.2 in
          let led : Led lead Is first.0 (mark s ∷ head.1.0) = (head.1.0, ap (λ t. mark t ∷ head.1.0) (sym head.0), head.1.2) in
          ⊎_elim
          (λ last. (head.1.0, head.1.1 ∙ ap (λ r. head.1.0 ++ r) last.2, subst (λ l. Spread (Led lead Is) l (mark s ∷ head.1.0)) (sym last.1) (mark s ∷ head.1.0, [], sym (append-nil _), led, refl)))
          (λ more.
          let tail = sound_list n more.0 more.1 rest more.2 more.4 in
          let mid : first.1 ≡ (mark more.0 ∷ tail.0) ++ rest = joins first.1 more.1 more.0 more.3 ∙ ap (λ r. mark more.0 ∷ r) tail.1 in
          (head.1.0 ++ mark more.0 ∷ tail.0, whole s ts first.1 rest head.1.0 (mark more.0 ∷ tail.0) head.1.1 mid, subst (λ l. Spread (Led lead Is) l (mark s ∷ (head.1.0 ++ mark more.0 ∷ tail.0))) (sym more.5) (mark s ∷ head.1.0, mark more.0 ∷ tail.0, refl, led, tail.2)))
          (carried-some one join (list_at one join n) first.0 first.1 (join first.1) xs rest first.3)

    module _ (Goes : List Token → Type 0) (bound : ℕ)
        (complete : (s : S) (front rest : List Token) (x : A) → state x ≡ s → Is x front → Goes rest → length (front ++ rest) < bound → one s (front ++ rest) ≡ Some (x, rest))
        (goes : (s : S) (rest : List Token) → Goes (mark s ∷ rest)) (joined : (s : S) (rest : List Token) → join (mark s ∷ rest) ≡ Some (s, rest)) where
      same_state : (s t : S) → mark s ≡ mark t → s ≡ t
      same_state s t is = (some_pair_parts s t [] [] (sym (joined s []) ∙ ap (λ m. join (m ∷ [])) is ∙ joined t [])).0

      pub complete_list : (xs : List A) (n : ℕ) (s : S) (front rest : List Token) → length xs ≤ n → Spread (Led lead Is) xs (mark s ∷ front) → Goes rest → join rest ≡ None → length (front ++ rest) < bound → list_at one join n s (front ++ rest) ≡ Some (xs, rest)
      complete_list [] n s front rest few is end last below = absurd (let e = is in cc)
      complete_list (x ∷ xs) zero s front rest few is end last below = absurd (omega arith)
      complete_list (x ∷ []) (suc n) s front rest few is end last below =
          let whole : mark s ∷ front ≡ lead x ∷ is.3.0 = is.2 ∙ ap (λ b. is.0 ++ b) is.4 ∙ append-nil is.0 ∙ is.3.1 in
          let word : is.3.0 ≡ front = cc in
          let led : state x ≡ s = same_state (state x) s cc in
          list_end one join n s (front ++ rest) rest x (complete s front rest x led (subst (Is x) word is.3.2) end below) last
      complete_list (x ∷ y ∷ ys) (suc n) s front rest few is end last below =
          let next = spread_begins y ys is.1 is.4 in
          let whole : mark s ∷ front ≡ lead x ∷ (is.3.0 ++ is.1) = is.2 ∙ ap (λ f. f ++ is.1) is.3.1 in
          let led : state x ≡ s = same_state (state x) s cc in
          let parts : front ≡ is.3.0 ++ (lead y ∷ next.0) = let e : front ≡ is.3.0 ++ is.1 = cc in e ∙ ap (λ b. is.3.0 ++ b) next.1 in
          let all : front ++ rest ≡ is.3.0 ++ (lead y ∷ next.0 ++ rest) = ap (λ f. f ++ rest) parts ∙ append_assoc is.3.0 (lead y ∷ next.0) rest in
          let size = ap length all ∙ length-append is.3.0 (lead y ∷ next.0 ++ rest) in
          let first : one s (front ++ rest) ≡ Some (x, lead y ∷ next.0 ++ rest) =
          subst (λ t. one s t ≡ Some (x, lead y ∷ next.0 ++ rest)) (sym all)
          (complete s is.3.0 (lead y ∷ next.0 ++ rest) x led is.3.2 (goes (state y) (next.0 ++ rest)) (rw (sym all) below)) in
          let later = complete_list (y ∷ ys) n (state y) next.0 rest (omega arith) (subst (Spread (Led lead Is) (y ∷ ys)) next.1 is.4) end last (omega arith) in
          list_on one join n s (state y) (front ++ rest) (lead y ∷ next.0 ++ rest) (next.0 ++ rest) x first (joined (state y) (next.0 ++ rest)) ∙ ap (with_front (x ∷ [])) later

-- what a loop without a limit keeps: with fuel for all tokens that are left, what was read and what is left give all
pub record Carries {A S : Type 0} (one : S → List Token → Reads A) (join : List Token → Reads S) (front : List A) (s : S) (ts : List Token) (all : Reads (List A)) : Type 0 where
  pub fuel : ℕ
  pub enough : length ts < fuel
  pub carries : with_front front (list_at one join fuel s ts) ≡ all

one_more : (n k : ℕ) → n < k → (j : ℕ) × (k ≡ suc j)
one_more n zero below = absurd (omega arith)
one_more n (suc k) below = (k, refl)

module _ {A S : Type 0} (one : S → List Token → Reads A) (join : List Token → Reads S) where
  pub carries_first : (n : ℕ) (s : S) (ts : List Token) → length ts < n → Carries one join [] s ts (list_at one join n s ts)
  carries_first n s ts below = record { fuel = n; enough = below; carries = with_front-nil _ }

  module _ (front : List A) (s : S) (ts : List Token) (all : Reads (List A)) (c : Carries one join front s ts all) where
    so_far : (j : ℕ) → c.fuel ≡ suc j → with_front front (list_at one join (suc j) s ts) ≡ all
    so_far j is = subst (λ k. with_front front (list_at one join k s ts) ≡ all) is c.carries

    pub carries_fail : one s ts ≡ None → all ≡ None
    carries_fail = let m = one_more (length ts) c.fuel c.enough in reads_fail one join front m.0 s ts all (so_far m.0 m.1)

    pub carries_end : (after : List Token) (x : A) → one s ts ≡ Some (x, after) → join after ≡ None → all ≡ Some (front ++ x ∷ [], after)
    carries_end = let m = one_more (length ts) c.fuel c.enough in reads_end one join front m.0 s ts all (so_far m.0 m.1)

    pub carries_on : (next_s : S) (after next : List Token) (x : A) → one s ts ≡ Some (x, after) → join after ≡ Some (next_s, next) → length next < length ts → Carries one join (front ++ x ∷ []) next_s next all
    carries_on next_s after next x read joins shorter =
        let m = one_more (length ts) c.fuel c.enough in
        let fuel = c.enough in
        record { fuel = m.0; enough = omega arith; carries = reads_on one join front m.0 s ts all (so_far m.0 m.1) next_s after next x read joins }
