-- Sinks over several calls.
use Rattle.std.proofs.Common.{◌≡◌, ◌≢◌, ℕ, ◌≤◌, List, [], ◌∷◌, ◌++◌, refl, Option, Ok, Err, Result, sym, ap, ◌∙◌, append_assoc, arith, subst, take, drop, length}
use Rattle.std.proofs.lemmas.List.{take-take, take-append-drop, length-take}
use Rattle.std.specs.Io.KnownBytes.{Appends, Keeps}
use Rattle.std.proofs.KnownBytes.{Appends-trans, Appends-kept}
use Rattle.bern_ports.specs.Causes.{Rose}
use Rattle.bern_ports.specs.declared.ports.Failed.{Failed}
use Rattle.bern_ports.specs.Frames.{Port}
use Rattle.bern_top.specs.Answers.{StopsWithin, Writes}

abbrev pub over : Option (List ℕ) → Option (List ℕ) → ℕ → ℕ → Port
over old new before now = record { old = old; new = new; before = before; now = now }

-- a count that rose later rose from before
pub rose_again : (a b c : ℕ) → a ≤ b → Rose b c → Rose a c
rose_again a b c up rose = omega (arith, up, rose)

rose_later : (a b c : ℕ) → Rose a b → b ≤ c → Rose a c
rose_later a b c rose up = omega (arith, up, rose)

-- a part was written whole, and then a later one stopped
pub stops_after : (a b c : Option (List ℕ)) (k m n : ℕ) (first second : List ℕ) → k ≤ m → Appends a b first → StopsWithin (over b c m n) second → StopsWithin (over a c k n) (first ++ second)
stops_after a b c k m n first second up wrote stops = record {
  front = first ++ stops.front;
  rest = stops.rest;
  parts = ap (λ t. first ++ t) stops.parts ∙ sym (append_assoc first stops.front stops.rest);
  some = stops.some;
  appends = Appends-trans a b c first stops.front wrote stops.appends;
  rose = rose_again k m n up stops.rose;
}

pub writes_after : (a b c : Option (List ℕ)) (k m n : ℕ) (first second : List ℕ) (result : Result (Unit {0}) Failed) → k ≤ m → Appends a b first → Writes (over b c m n) second result → Writes (over a c k n) (first ++ second) result
writes_after a b c k m n first second (Ok done) up wrote writes = Appends-trans a b c first second wrote writes
writes_after a b c k m n first second (Err failed) up wrote writes = stops_after a b c k m n first second up wrote writes

-- what stops within a part stops within a longer text that begins with it
pub stops_before : (a b : Option (List ℕ)) (k m : ℕ) (first second : List ℕ) → StopsWithin (over a b k m) first → StopsWithin (over a b k m) (first ++ second)
stops_before a b k m first second stops = record {
  front = stops.front;
  rest = stops.rest ++ second;
  parts = ap (λ t. t ++ second) stops.parts ∙ append_assoc stops.front stops.rest second;
  some = λ none. stops.some (append_nil_left stops.rest second none);
  appends = stops.appends;
  rose = stops.rose;
}
  where
    append_nil_left : (xs ys : List ℕ) → xs ++ ys ≡ [] → xs ≡ []
    append_nil_left [] ys none = refl
    append_nil_left (x ∷ xs) ys none = cc

-- one more write of the front of what is left
pub writes_more : (a b c : Option (List ℕ)) (bytes rest piece front : List ℕ) (most count : ℕ) → bytes ≡ front ++ rest → piece ≡ take most rest → count ≤ length piece
    → Appends a b front → Appends b c (take count piece) → (more : List ℕ) × (bytes ≡ more ++ drop count rest) × Appends a c more
writes_more a b c bytes rest piece front most count parts is within wrote writes =
    let taken : take count piece ≡ take count rest = ap (λ t. take count t) is ∙ take-take count most rest (within_most most rest piece count is within) in (
      front ++ take count rest,
      parts ∙ ap (λ t. front ++ t) (sym (take-append-drop count rest)) ∙ sym (append_assoc front (take count rest) (drop count rest)),
      subst (λ t. Appends a c (front ++ t)) taken (Appends-trans a b c front (take count piece) wrote writes),
    )
  where
    within_most : (most : ℕ) (rest piece : List ℕ) (count : ℕ) → piece ≡ take most rest → count ≤ length piece → count ≤ most
    within_most most rest piece count is within = omega (arith, within, ap length is, length-take most rest)

-- a write that fails stops within what is left
pub stops_here : (a b c : Option (List ℕ)) (k m n : ℕ) (bytes rest front : List ℕ) → k ≤ m → bytes ≡ front ++ rest → rest ≢ [] → Appends a b front → Keeps b c → Rose m n → StopsWithin (over a c k n) bytes
stops_here a b c k m n bytes rest front up parts some wrote kept rose = record {
  front = front;
  rest = rest;
  parts = parts;
  some = some;
  appends = Appends-kept a b c front wrote kept;
  rose = rose_again k m n up rose;
}
