-- Items, sums and references: what is read is spelled so, and what is spelled so is read.
use Rattle.std.proofs.Common.{◌≡◌, ◌≢◌, ℕ, suc, ◌≤◌, Bool, true, false, Option, Some, None, option_map, List, [], ◌∷◌, ◌++◌, length, append_assoc, refl, sym, ap, subst, ◌∙◌, arith, inl, inr}
use Rattle.std.specs.Prelude.{option_and_then, nat_le}
use Rattle.std.proofs.lemmas.Option.{some_pair_parts, cond_some}
use Rattle.std.proofs.lemmas.Bool.{leb-true, le-leb, cond-true}
use Rattle.bern_base.specs.declared.limits.TheConstants.{MOST_ITEMS, MOST_SUM_NUMBER}
use Rattle.bern_base.specs.declared.raw.RawItem.{RawItem}
use Rattle.bern_base.specs.declared.raw.RawSum.{RawSum}
use Rattle.bern_base.specs.declared.raw.RawRef.{RawRef}
use Rattle.job_text.specs.declared.tokens.Token.{Token}
use Rattle.job_text.specs.declared.tokens.Token.TheVariants.{Name, Num, Mark}
use Rattle.job_text.specs.declared.tokens.Mark.TheVariants as m
use Rattle.job_text.specs.Grammar.{Spread, Led, sign, with_sign, IsTimes, IsItem, item_sign, IsSum, AreSubs, IsRef}
use Rattle.job_text.specs.NestReading.{Reads, sign_at, first_sign, limited_item, item_at, items_at, as_sum, sum_at, second_at, subs_at, closed_at, ref_at}
use Rattle.job_text.proofs.TokenLemmas.{mapped-some}
use Rattle.job_text.proofs.ListLemmas.{sound_list, complete_list, list_few, spread_some}

pub bound-some : {A B : Type 0} (f : A → Option B) (o : Option A) (y : B) → option_and_then f o ≡ Some y → (x : A) × (o ≡ Some x) × (f x ≡ Some y)
bound-some f None y is = absurd cc
bound-some f (Some x) y is = (x, refl, is)

pub starts : (token : Token) (front back tokens : List Token) → tokens ≡ front ++ back → token ∷ tokens ≡ (token ∷ front) ++ back
starts token front back tokens is = ap (λ t. token ∷ t) is

-- no star goes on with a number that stands before it
abbrev pub NoStar : List Token → Type 0
NoStar (Mark m.Star ∷ tokens) = ⊥
NoStar tokens = Unit {0}

-- no star and no sign goes on with a sum that stands before it
abbrev pub Stops : List Token → Type 0
Stops (Mark m.Star ∷ tokens) = ⊥
Stops (Mark m.Plus ∷ tokens) = ⊥
Stops (Mark m.Minus ∷ tokens) = ⊥
Stops tokens = Unit {0}

pub Stops-star : (tokens : List Token) → Stops tokens → NoStar tokens
Stops-star (Mark m.Star ∷ tokens) stops = stops
Stops-star tokens stops = tt

pub Stops-sign : (tokens : List Token) → Stops tokens → sign_at tokens ≡ None
Stops-sign (Mark m.Minus ∷ tokens) stops = absurd stops
Stops-sign (Mark m.Plus ∷ tokens) stops = absurd stops
Stops-sign tokens stops = refl

limited-is : (minus : Bool) (n : ℕ) (name : Option (List ℕ)) (tokens rest : List Token) (x : RawItem) → limited_item minus n name tokens ≡ Some (x, rest) → (n ≤ MOST_SUM_NUMBER) × (x ≡ record { minus = minus; number = n; name = name }) × (tokens ≡ rest)
limited-is minus n name tokens rest x is =
    let test = cond_some (nat_le n MOST_SUM_NUMBER) (record { minus = minus; number = n; name = name }, tokens) (x, rest) is in
    (leb-true n MOST_SUM_NUMBER test.0, sym (ap (λ p. p.0) test.1), ap (λ p. p.1) test.1)

limited-fits : (minus : Bool) (n : ℕ) (name : Option (List ℕ)) (tokens : List Token) → n ≤ MOST_SUM_NUMBER → limited_item minus n name tokens ≡ Some (record { minus = minus; number = n; name = name }, tokens)
limited-fits minus n name tokens fits = cond-true _ _ _ (le-leb n MOST_SUM_NUMBER fits)

abbrev ReadsItem : Bool → List Token → List Token → RawItem → Type 0
ReadsItem minus tokens rest x = (x.minus ≡ minus) × ((front : List Token) × (tokens ≡ front ++ rest) × IsItem x front)

read_limited : (minus : Bool) (n : ℕ) (name : Option (List ℕ)) (front tokens rest : List Token) (x : RawItem) → limited_item minus n name tokens ≡ Some (x, rest) → (n ≤ MOST_SUM_NUMBER → IsTimes n name front) → ReadsItem minus (front ++ tokens) rest x
read_limited minus n name front tokens rest x is times =
    let found = limited-is minus n name tokens rest x is in
    subst (ReadsItem minus (front ++ tokens) rest) (sym found.1) (refl, (front, ap (λ t. front ++ t) found.2, times found.0))

pub sound_item : (minus : Bool) (tokens rest : List Token) (x : RawItem) → item_at minus tokens ≡ Some (x, rest) → ReadsItem minus tokens rest x
unfolding item_at
sound_item minus (Num n ∷ Mark m.Star ∷ Name name ∷ tokens) rest x is = read_limited minus n (Some name) (Num n ∷ Mark m.Star ∷ Name name ∷ []) tokens rest x is (λ fits. inl (fits, refl))
sound_item minus (Num n ∷ tokens) rest x is = read_limited minus n None (Num n ∷ []) tokens rest x is (λ fits. (fits, refl))
sound_item minus (Name name ∷ tokens) rest x is =
    let same = some_pair_parts (record { minus = minus; number = 1; name = Some name }) x tokens rest is in
    subst (ReadsItem minus (Name name ∷ tokens) rest) same.0 (refl, (Name name ∷ [], ap (λ t. Name name ∷ t) same.1, inr (refl, refl)))
sound_item minus tokens rest x is = absurd cc

item-number : (minus : Bool) (n : ℕ) (rest : List Token) → NoStar rest → item_at minus (Num n ∷ rest) ≡ limited_item minus n None rest
unfolding item_at
item-number minus n (Mark m.Star ∷ rest) free = absurd free
item-number minus n rest free = refl

item-times : (minus : Bool) (n : ℕ) (name : List ℕ) (rest : List Token) → item_at minus (Num n ∷ Mark m.Star ∷ Name name ∷ rest) ≡ limited_item minus n (Some name) rest
unfolding item_at
item-times minus n name rest = refl

item-name : (minus : Bool) (name : List ℕ) (rest : List Token) → item_at minus (Name name ∷ rest) ≡ Some (record { minus = minus; number = 1; name = Some name }, rest)
unfolding item_at
item-name minus name rest = refl

complete_times : (minus : Bool) (n : ℕ) (name : Option (List ℕ)) (front rest : List Token) → IsTimes n name front → NoStar rest → item_at minus (front ++ rest) ≡ Some (record { minus = minus; number = n; name = name }, rest)
complete_times minus n None front rest is free =
    subst (λ f. item_at minus (f ++ rest) ≡ Some (record { minus = minus; number = n; name = None }, rest)) (sym is.1) (item-number minus n rest free ∙ limited-fits minus n None rest is.0)
complete_times minus n (Some name) front rest (inl is) free =
    subst (λ f. item_at minus (f ++ rest) ≡ Some (record { minus = minus; number = n; name = Some name }, rest)) (sym is.1) (item-times minus n name rest ∙ limited-fits minus n (Some name) rest is.0)
complete_times minus n (Some name) front rest (inr is) free =
    subst (λ f. item_at minus (f ++ rest) ≡ Some (record { minus = minus; number = n; name = Some name }, rest)) (sym is.1)
    (item-name minus name rest ∙ ap (λ k. Some (record { minus = minus; number = k; name = Some name }, rest)) (sym is.0))

pub complete_item : (minus : Bool) (front rest : List Token) (x : RawItem) → x.minus ≡ minus → IsItem x front → NoStar rest → item_at minus (front ++ rest) ≡ Some (x, rest)
complete_item minus front rest x is times free = subst (λ b. item_at b (front ++ rest) ≡ Some (x, rest)) is (complete_times x.minus x.number x.name front rest times free)

times_some : (n : ℕ) (name : Option (List ℕ)) (tokens : List Token) → IsTimes n name tokens → tokens ≢ []
times_some n None tokens is none = let e = is.1 in cc
times_some n (Some name) tokens (inl is) none = let e = is.1 in cc
times_some n (Some name) tokens (inr is) none = let e = is.1 in cc

-- what a sign leads, or nothing
plain_sign : (tokens front rest : List Token) → first_sign tokens ≡ (false, tokens) → tokens ≡ front ++ rest → with_sign front ≡ Mark m.Plus ∷ front
plain_sign tokens (Mark m.Minus ∷ front) rest none is = absurd (let e = ap (λ t. (first_sign t).0) is in let f = ap (λ p. p.0) none in cc)
plain_sign tokens front rest none is = refl

module _ {A : Type 0} (Is : A → List Token → Type 0) (minus : A → Bool) where
  abbrev pub AreSigned : List A → List Token → Type 0
  AreSigned xs tokens = Spread (Led (λ x. sign (minus x)) Is) xs tokens

  module _ (xs : List A) (rest : List Token) where
    pub sound_signed : (tokens : List Token) → (front : List Token) × ((first_sign tokens).1 ≡ front ++ rest) × AreSigned xs (sign (first_sign tokens).0 ∷ front) → (front : List Token) × (tokens ≡ front ++ rest) × AreSigned xs (with_sign front)
    sound_signed (Mark m.Minus ∷ tokens) found = (Mark m.Minus ∷ found.0, ap (λ t. Mark m.Minus ∷ t) found.1, found.2)
    sound_signed tokens found = (found.0, found.1, subst (AreSigned xs) (sym (plain_sign tokens found.0 rest refl found.1)) found.2)

  signed_some : (some : (x : A) (tokens : List Token) → Is x tokens → tokens ≢ []) (xs : List A) → AreSigned xs (Mark m.Plus ∷ []) → ⊥
  signed_some some xs is = spread_some Is sign minus some xs (Mark m.Plus) is

  pub complete_signed : (some : (x : A) (tokens : List Token) → Is x tokens → tokens ≢ []) (read : Bool → List Token → Reads (List A)) (xs : List A) (front rest : List Token) → ((s : Bool) (tail : List Token) → length (tail ++ rest) ≤ length (front ++ rest) → AreSigned xs (sign s ∷ tail) → read s (tail ++ rest) ≡ Some (xs, rest)) → AreSigned xs (with_sign front) → read (first_sign (front ++ rest)).0 (first_sign (front ++ rest)).1 ≡ Some (xs, rest)
  complete_signed some read xs [] rest complete is = absurd (signed_some some xs is)
  complete_signed some read xs (Mark m.Minus ∷ front) rest complete is = complete true front (omega arith) is
  complete_signed some read xs (token ∷ front) rest complete is = complete false (token ∷ front) (omega arith) is

pub joins_sign : (tokens rest : List Token) (s : Bool) → sign_at tokens ≡ Some (s, rest) → tokens ≡ sign s ∷ rest
joins_sign (Mark m.Minus ∷ tokens) rest s is = let same = some_pair_parts true s tokens rest is in ap (λ t. Mark m.Minus ∷ t) same.1 ∙ ap (λ b. sign b ∷ rest) same.0
joins_sign (Mark m.Plus ∷ tokens) rest s is = let same = some_pair_parts false s tokens rest is in ap (λ t. Mark m.Plus ∷ t) same.1 ∙ ap (λ b. sign b ∷ rest) same.0
joins_sign tokens rest s is = absurd cc

pub joined_sign : (s : Bool) (rest : List Token) → sign_at (sign s ∷ rest) ≡ Some (s, rest)
joined_sign true rest = refl
joined_sign false rest = refl

pub sign_no_star : (s : Bool) (rest : List Token) → NoStar (sign s ∷ rest)
sign_no_star true rest = tt
sign_no_star false rest = tt

pub sound_sum : (tokens rest : List Token) (x : RawSum) → sum_at tokens ≡ Some (x, rest) → (front : List Token) × (tokens ≡ front ++ rest) × IsSum x front
unfolding sum_at
sound_sum tokens rest x is =
    let first = first_sign tokens in
    let read = mapped-some as_sum (items_at first.0 first.1) (x, rest) is in
    let read_is : items_at first.0 first.1 ≡ Some (x.items, rest) = read.1 ∙ ap (λ q. Some (q.0.items, q.1)) read.2 in
    let found = sound_list IsItem sign (λ i. i.minus) item_at sign_at (λ s ts r i e. sound_item s ts r i e) joins_sign MOST_ITEMS first.0 first.1 rest x.items read_is in
    let all = sound_signed IsItem (λ i. i.minus) x.items rest tokens found in
    (all.0, all.1, record { items = all.2; at_most = list_few item_at sign_at MOST_ITEMS first.0 first.1 x.items rest read_is })

pub complete_sum : (front rest : List Token) (x : RawSum) → IsSum x front → Stops rest → sum_at (front ++ rest) ≡ Some (x, rest)
unfolding sum_at
complete_sum front rest x is stops =
    let read = complete_signed IsItem (λ i. i.minus) (λ i ts e. times_some i.number i.name ts e) items_at x.items front rest
    (λ s tail below spread. complete_list IsItem sign (λ i. i.minus) item_at sign_at NoStar (suc (length (front ++ rest)))
    (λ b f r i e it free _. complete_item b f r i e it free) sign_no_star joined_sign x.items MOST_ITEMS s tail rest is.at_most spread (Stops-star rest stops) (Stops-sign rest stops) (omega arith))
    is.items in
    ap (option_map as_sum) read

sum_some : (x : RawSum) (tokens : List Token) → IsSum x tokens → tokens ≢ []
sum_some x tokens is none = signed_some IsItem (λ i. i.minus) (λ i ts e. times_some i.number i.name ts e) x.items (subst (λ ts. Spread (Led item_sign IsItem) x.items (with_sign ts)) none is.items)

abbrev ReadsSubs : List Token → List Token → List RawSum → Type 0
ReadsSubs tokens rest subs = (front : List Token) × (tokens ≡ front ++ rest) × AreSubs subs front

sound_second : (row : RawSum) (front after rest : List Token) (subs : List RawSum) → IsSum row front → second_at row after ≡ Some (subs, rest) → ReadsSubs (front ++ after) rest subs
sound_second row front (Mark m.Comma ∷ after) rest subs first is =
    let read = mapped-some (λ p. (row ∷ p.0 ∷ [], p.1)) (sum_at after) (subs, rest) is in
    let same = some_pair_parts (row ∷ read.0.0 ∷ []) subs read.0.1 rest (ap Some read.2) in
    let found = sound_sum after rest read.0.0 (read.1 ∙ ap (λ r. Some (read.0.0, r)) same.1) in
    let whole : front ++ Mark m.Comma ∷ after ≡ (front ++ Mark m.Comma ∷ found.0) ++ rest = ap (λ t. front ++ Mark m.Comma ∷ t) found.1 ∙ sym (append_assoc front (Mark m.Comma ∷ found.0) rest) in
    subst (ReadsSubs (front ++ Mark m.Comma ∷ after) rest) same.0 (front ++ Mark m.Comma ∷ found.0, whole, (front, found.0, refl, first, found.2))
sound_second row front after rest subs first is =
    let same = some_pair_parts (row ∷ []) subs after rest is in
    subst (ReadsSubs (front ++ after) rest) same.0 (front, ap (λ t. front ++ t) same.1, first)

sound_subs : (tokens rest : List Token) (subs : List RawSum) → subs_at tokens ≡ Some (subs, rest) → ReadsSubs tokens rest subs
unfolding subs_at
sound_subs tokens rest subs is =
    let read = bound-some (λ p. second_at p.0 p.1) (sum_at tokens) (subs, rest) is in
    let first = sound_sum tokens read.0.1 read.0.0 read.1 in
    subst (λ ts. ReadsSubs ts rest subs) (sym first.1) (sound_second read.0.0 first.0 read.0.1 rest subs first.2 read.2)

complete_subs : (front rest : List Token) (subs : List RawSum) → AreSubs subs front → subs_at (front ++ Mark m.Close ∷ rest) ≡ Some (subs, Mark m.Close ∷ rest)
unfolding subs_at
complete_subs front rest [] is = absurd is
complete_subs front rest (only ∷ []) is = ap (option_and_then (λ p. second_at p.0 p.1)) (complete_sum front (Mark m.Close ∷ rest) only is tt)
complete_subs front rest (row ∷ col ∷ []) is =
    let whole : front ++ Mark m.Close ∷ rest ≡ is.0 ++ Mark m.Comma ∷ (is.1 ++ Mark m.Close ∷ rest) = ap (λ f. f ++ Mark m.Close ∷ rest) is.2 ∙ append_assoc is.0 (Mark m.Comma ∷ is.1) (Mark m.Close ∷ rest) in
    let first = complete_sum is.0 (Mark m.Comma ∷ (is.1 ++ Mark m.Close ∷ rest)) row is.3 tt in
    let second = complete_sum is.1 (Mark m.Close ∷ rest) col is.4 tt in
    ap (λ ts. option_and_then (λ p. second_at p.0 p.1) (sum_at ts)) whole ∙ ap (option_and_then (λ p. second_at p.0 p.1)) first ∙ ap (option_map (λ p. (row ∷ p.0 ∷ [], p.1))) second
complete_subs front rest (row ∷ col ∷ more ∷ subs) is = absurd is

abbrev ReadsRef : List Token → List Token → RawRef → Type 0
ReadsRef tokens rest x = (front : List Token) × (tokens ≡ front ++ rest) × IsRef x front

sound_closed : (name : List ℕ) (subs : List RawSum) (front after rest : List Token) (x : RawRef) → AreSubs subs front → closed_at (record { name = name; subs = subs }) after ≡ Some (x, rest) → ReadsRef (Name name ∷ Mark m.Open ∷ (front ++ after)) rest x
sound_closed name subs front (Mark m.Close ∷ after) rest x are is =
    let same = some_pair_parts (record { name = name; subs = subs }) x after rest is in
    let whole : Name name ∷ Mark m.Open ∷ (front ++ Mark m.Close ∷ after) ≡ (Name name ∷ Mark m.Open ∷ front ++ Mark m.Close ∷ []) ++ rest =
    ap (λ t. Name name ∷ Mark m.Open ∷ t) (sym (append_assoc front (Mark m.Close ∷ []) after)) ∙ ap (λ t. (Name name ∷ Mark m.Open ∷ front ++ Mark m.Close ∷ []) ++ t) same.1 in
    subst (ReadsRef (Name name ∷ Mark m.Open ∷ (front ++ Mark m.Close ∷ after)) rest) same.0 (Name name ∷ Mark m.Open ∷ front ++ Mark m.Close ∷ [], whole, (front, refl, are))
sound_closed name subs front after rest x are is = absurd cc

pub sound_ref : (tokens rest : List Token) (x : RawRef) → ref_at tokens ≡ Some (x, rest) → ReadsRef tokens rest x
unfolding ref_at
sound_ref (Name name ∷ Mark m.Open ∷ tokens) rest x is =
    let read = bound-some (λ p. closed_at (record { name = name; subs = p.0 }) p.1) (subs_at tokens) (x, rest) is in
    let first = sound_subs tokens read.0.1 read.0.0 read.1 in
    subst (λ ts. ReadsRef (Name name ∷ Mark m.Open ∷ ts) rest x) (sym first.1) (sound_closed name read.0.0 first.0 read.0.1 rest x first.2 read.2)
sound_ref tokens rest x is = absurd cc

pub complete_ref : (front rest : List Token) (x : RawRef) → IsRef x front → ref_at (front ++ rest) ≡ Some (x, rest)
unfolding ref_at
complete_ref front rest x is =
    let whole : front ++ rest ≡ Name x.name ∷ Mark m.Open ∷ (is.0 ++ Mark m.Close ∷ rest) =
    ap (λ f. f ++ rest) is.1 ∙ ap (λ t. Name x.name ∷ Mark m.Open ∷ t) (append_assoc is.0 (Mark m.Close ∷ []) rest) in
    ap ref_at whole ∙ ap (option_and_then (λ p. closed_at (record { name = x.name; subs = p.0 }) p.1)) (complete_subs is.0 rest x.subs is.2)
