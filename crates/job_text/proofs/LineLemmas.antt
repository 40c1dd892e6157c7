-- The lines that `bstr` gives, with their feeds taken off, are those of the definition.
use Rattle.std.proofs.Common.{◌≡◌, ℕ, suc, ◌-◌, Bool, true, false, cond, ◌==◌, List, [], ◌∷◌, length, take, drop, map, slice_index, refl, sym, ap, subst, ◌∙◌, arith, ⊎_elim}
use Rattle.std.proofs.lemmas.Bool.{cases_Bool, cond-true, cond-false}
use Rattle.std.specs.List.{slice_split, onto_first}
use Rattle.std.proofs.lemmas.List.Splits.{slice_split-cons_yes, slice_split-cons_no}
use Rattle.std.specs.Str.Lines.{strip_carriage_return}
use Rattle.bstr.specs.Text.{line_len, lines_of}
use Rattle.bstr.proofs.lemmas.LineLemmas.{lines-step, lines-nil}
use Rattle.job_text.specs.Lines.{lines, filled, is_feed, without_feed}

-- a feed is a line by itself
lines_of-feed : (byte : ℕ) (bytes : List ℕ) → is_feed byte ≡ true → lines_of (byte ∷ bytes) ≡ (byte ∷ []) ∷ lines_of bytes
unfolding line_len
lines_of-feed byte bytes feed =
    lines-step (byte ∷ bytes) (omega arith) ∙ ap (λ n. take n (byte ∷ bytes) ∷ lines_of (drop n (byte ∷ bytes))) (cond-true _ 1 (suc (line_len bytes)) feed)

-- another byte stands before the first line of those that follow
lines_of-other : (byte : ℕ) (bytes : List ℕ) → is_feed byte ≡ false → lines_of (byte ∷ bytes) ≡ onto_first byte (lines_of bytes)
unfolding line_len
lines_of-other byte [] other =
    lines-step (byte ∷ []) (omega arith) ∙ ap (λ n. take n (byte ∷ []) ∷ lines_of (drop n (byte ∷ []))) (cond-false _ 1 1 other)
    ∙ ap (λ more. (byte ∷ []) ∷ more) lines-nil ∙ ap (onto_first byte) (sym lines-nil)
lines_of-other byte (next ∷ bytes) other =
    let rest = next ∷ bytes in
    lines-step (byte ∷ rest) (omega arith) ∙ ap (λ n. take n (byte ∷ rest) ∷ lines_of (drop n (byte ∷ rest))) (cond-false _ 1 (suc (line_len rest)) other)
    ∙ ap (onto_first byte) (sym (lines-step rest (omega arith)))

parts_are_some : (bytes : List ℕ) → (first : List ℕ) × (more : List (List ℕ)) × (slice_split is_feed bytes ≡ first ∷ more)
parts_are_some [] = ([], [], refl)
parts_are_some (byte ∷ bytes) = elim (is_feed byte) as (λ test. (first : List ℕ) × (more : List (List ℕ)) × (cond test ([] ∷ slice_split is_feed bytes) (onto_first byte (slice_split is_feed bytes)) ≡ first ∷ more)) [
  | true ↦ ([], slice_split is_feed bytes, refl)
  | false ↦ let rest = parts_are_some bytes in (byte ∷ rest.0, rest.1, ap (onto_first byte) rest.2)
]

filled-onto : (byte : ℕ) (parts : List (List ℕ)) (first : List ℕ) (more : List (List ℕ)) → filled parts ≡ first ∷ more → filled (onto_first byte parts) ≡ (byte ∷ first) ∷ more
filled-onto byte [] first more is = absurd (cc)
filled-onto byte ([] ∷ []) first more is = absurd (cc)
filled-onto byte ((b ∷ part) ∷ []) first more is = cc
filled-onto byte (part ∷ next ∷ parts) first more is = cc

without_feed-longer : (byte next : ℕ) (line : List ℕ) → without_feed (byte ∷ next ∷ line) ≡ byte ∷ without_feed (next ∷ line)
without_feed-longer byte next line =
    let last : length (byte ∷ next ∷ line) - 1 ≡ suc (length (next ∷ line) - 1) = omega arith in
    ap (λ n. cond (slice_index (byte ∷ next ∷ line) n == 10) (take n (byte ∷ next ∷ line)) (byte ∷ next ∷ line)) last
    ∙ moved (slice_index (next ∷ line) (length (next ∷ line) - 1) == 10) byte (take (length (next ∷ line) - 1) (next ∷ line)) (next ∷ line)
  where
    moved : (test : Bool) (b : ℕ) (x y : List ℕ) → cond test (b ∷ x) (b ∷ y) ≡ b ∷ cond test x y
    moved true b x y = refl
    moved false b x y = refl

onto-is : (byte : ℕ) (parts : List (List ℕ)) (first : List ℕ) (more : List (List ℕ)) → onto_first byte parts ≡ first ∷ more → (line : List ℕ) × (first ≡ byte ∷ line)
onto-is byte [] first more is = ([], cc)
onto-is byte (part ∷ parts) first more is = (part, cc)

first_is_some : (bytes : List ℕ) (first : List ℕ) (more : List (List ℕ)) → lines_of bytes ≡ first ∷ more → (byte : ℕ) × (line : List ℕ) × (first ≡ byte ∷ line)
first_is_some [] first more is = absurd (let none = lines-nil in cc)
first_is_some (byte ∷ bytes) first more is = ⊎_elim
    (λ feed. (byte, [], (let e = lines_of-feed byte bytes feed in cc)))
    (λ other. let found = onto-is byte (lines_of bytes) first more (sym (lines_of-other byte bytes other) ∙ is) in (byte, found.0, found.1))
    (cases_Bool (is_feed byte))

-- a byte before the first of some lines, and before the first of the parts that they are
onto_lines : (byte : ℕ) (found parts : List (List ℕ)) → is_feed byte ≡ false → ((first : List ℕ) (more : List (List ℕ)) → found ≡ first ∷ more → (b : ℕ) × (line : List ℕ) × (first ≡ b ∷ line)) → map without_feed found ≡ filled parts → (found ≡ [] → parts ≡ [] ∷ []) → map without_feed (onto_first byte found) ≡ filled (onto_first byte parts)
onto_lines byte [] parts other some same none = rw (none refl) (ap (λ line. line ∷ []) (cond-false _ _ _ other))
onto_lines byte (first ∷ more) parts other some same none =
    let is = some first more refl in
    let longer : without_feed (byte ∷ first) ≡ byte ∷ without_feed first = subst (λ line. without_feed (byte ∷ line) ≡ byte ∷ without_feed line) (sym is.2) (without_feed-longer byte is.0 is.1) in
    ap (λ line. line ∷ map without_feed more) longer ∙ sym (filled-onto byte parts (without_feed first) (map without_feed more) (sym same))

no_lines : (bytes : List ℕ) → lines_of bytes ≡ [] → slice_split is_feed bytes ≡ [] ∷ []
no_lines [] is = refl
no_lines (byte ∷ bytes) is = absurd (let e = lines-step (byte ∷ bytes) (omega arith) in cc)

-- an empty part before others is a line
after_feed : (byte : ℕ) (found parts : List (List ℕ)) → is_feed byte ≡ true → (first : List ℕ) × (more : List (List ℕ)) × (parts ≡ first ∷ more) → map without_feed found ≡ filled parts → map without_feed ((byte ∷ []) ∷ found) ≡ filled ([] ∷ parts)
after_feed byte found parts feed some same =
    let empty : without_feed (byte ∷ []) ≡ [] = cond-true _ _ _ feed in
    ap (λ line. line ∷ map without_feed found) empty ∙ ap (λ lines. [] ∷ lines) same
    ∙ subst (λ ps. [] ∷ filled ps ≡ filled ([] ∷ ps)) (sym some.2) refl

lines_fed : (bytes : List ℕ) → map without_feed (lines_of bytes) ≡ filled (slice_split is_feed bytes)
lines_fed [] = ap (map without_feed) lines-nil
lines_fed (byte ∷ bytes) = ⊎_elim
    (λ feed. ap (map without_feed) (lines_of-feed byte bytes feed)
    ∙ after_feed byte (lines_of bytes) (slice_split is_feed bytes) feed (parts_are_some bytes) (lines_fed bytes)
    ∙ ap filled (sym (slice_split-cons_yes is_feed byte bytes feed)))
    (λ other. ap (map without_feed) (lines_of-other byte bytes other)
    ∙ onto_lines byte (lines_of bytes) (slice_split is_feed bytes) other (first_is_some bytes) (lines_fed bytes) (no_lines bytes)
    ∙ ap filled (sym (slice_split-cons_no is_feed byte bytes other)))
    (cases_Bool (is_feed byte))

pub lines_same : (bytes : List ℕ) → map (λ line. strip_carriage_return (without_feed line)) (lines_of bytes) ≡ lines bytes
lines_same bytes = map-after strip_carriage_return without_feed (lines_of bytes) ∙ ap (map strip_carriage_return) (lines_fed bytes)
  where
    map-after : (f g : List ℕ → List ℕ) (xs : List (List ℕ)) → map (λ x. f (g x)) xs ≡ map f (map g xs)
    map-after f g [] = refl
    map-after f g (x ∷ xs) = ap (λ ys. f (g x) ∷ ys) (map-after f g xs)
