-- How a text breaks into tokens.
use Rattle.std.proofs.Common.{◌≡◌, ◌≢◌, ℕ, zero, suc, ◌<◌, ◌≤◌, Option, Some, None, option_map, List, [], ◌∷◌, ◌++◌, length, take, drop, length-drop, append_assoc, refl, sym, ap, subst, ◌∙◌, arith, ⊎_elim}
use Rattle.std.proofs.lemmas.Option.{some_pair_parts}
use Rattle.std.proofs.lemmas.Bool.{cases_Bool, cond-true, cond-false}
use Rattle.job_text.specs.declared.tokens.Token.{Token}
use Rattle.job_text.specs.declared.tokens.Token.TheVariants.{Mark}
use Rattle.job_text.specs.Lines.{trimmed, is_blank}
use Rattle.job_text.specs.Names.{is_digit, is_name_start}
use Rattle.job_text.specs.Marks.{double_mark, single_mark}
use Rattle.job_text.specs.Tokens.{first_token, number_at, digits_end, word_at, word_end, word_token, mark_at, single_at, longer_first, Lexes}
use Rattle.job_text.specs.Reading.{number_of}

pub mapped-some : {A B : Type 0} (f : A → B) (o : Option A) (y : B) → option_map f o ≡ Some y → (x : A) × (o ≡ Some x) × (f x ≡ y)
mapped-some f None y is = absurd cc
mapped-some f (Some x) y is = (x, refl, cc)

shorter_drop : (n : ℕ) (text : List ℕ) → take n text ≢ [] → length (drop n text) < length text
shorter_drop zero text some = absurd (some refl)
shorter_drop (suc n) [] some = absurd (some refl)
shorter_drop (suc n) (byte ∷ text) some = omega (arith, length-drop n text)

pub trimmed-shorter : (text : List ℕ) → length (trimmed text) ≤ length text
trimmed-shorter [] = omega arith
trimmed-shorter (byte ∷ text) = ⊎_elim
    (λ blank. rw (cond-true _ (trimmed text) (byte ∷ text) blank) (omega (arith, trimmed-shorter text)))
    (λ other. rw (cond-false _ (trimmed text) (byte ∷ text) other) (omega arith))
    (cases_Bool (is_blank byte))

pub trimmed-trimmed : (text : List ℕ) → trimmed (trimmed text) ≡ trimmed text
trimmed-trimmed [] = refl
trimmed-trimmed (byte ∷ text) = ⊎_elim
    (λ blank. rw (cond-true _ (trimmed text) (byte ∷ text) blank) (trimmed-trimmed text))
    (λ other. rw (cond-false _ (trimmed text) (byte ∷ text) other) (cond-false _ (trimmed text) (byte ∷ text) other))
    (cases_Bool (is_blank byte))

number_at-shorter : (text rest : List ℕ) (token : Token) → number_at text ≡ Some (token, rest) → length rest < length text
number_at-shorter text rest token is =
    let found = mapped-some _ (number_of (take (digits_end text) text)) (token, rest) is in
    let some : take (digits_end text) text ≢ [] = λ none. absurd (let e = ap number_of none in cc) in
    let same : drop (digits_end text) text ≡ rest = ap (λ p. p.1) found.2 in
    rw (sym same) (shorter_drop (digits_end text) text some)

word_at-shorter : (text rest : List ℕ) (token : Token) → word_at text ≡ Some (token, rest) → length rest < length text
word_at-shorter text rest token is =
    let found = mapped-some _ (word_token (take (word_end text) text)) (token, rest) is in
    let some : take (word_end text) text ≢ [] = λ none. absurd (let e = ap word_token none in cc) in
    let same : drop (word_end text) text ≡ rest = ap (λ p. p.1) found.2 in
    rw (sym same) (shorter_drop (word_end text) text some)

single_at-rest : (byte : ℕ) (text rest : List ℕ) (token : Token) → single_at byte text ≡ Some (token, rest) → text ≡ rest
single_at-rest byte text rest token is = ap (λ p. p.1) (mapped-some _ (single_mark byte) (token, rest) is).2

mark_at-shorter : (byte : ℕ) (text rest : List ℕ) (token : Token) → mark_at byte text ≡ Some (token, rest) → length rest ≤ length text
mark_at-shorter byte [] rest token is = rw (sym (single_at-rest byte [] rest token is)) (omega arith)
mark_at-shorter byte (next ∷ text) rest token is = elim (double_mark byte next) as (λ o. longer_first (option_map (λ mark. (Mark mark, text)) o) (single_at byte (next ∷ text)) ≡ Some (token, rest) → length rest ≤ length (next ∷ text)) [
  | None ↦ λ e. rw (sym (single_at-rest byte (next ∷ text) rest token e)) (omega arith)
  | Some mark ↦ λ e. rw (sym (some_pair_parts (Mark mark) token text rest e).1) (omega arith)
] is

pub first_token-shorter : (text rest : List ℕ) (token : Token) → first_token text ≡ Some (token, rest) → length rest < length text
first_token-shorter [] rest token is = absurd cc
first_token-shorter (byte ∷ text) rest token is = ⊎_elim
    (λ digit. number_at-shorter (byte ∷ text) rest token (sym (cond-true _ _ _ digit) ∙ is))
    (λ other. ⊎_elim
    (λ letter. word_at-shorter (byte ∷ text) rest token (sym (cond-true _ _ _ letter) ∙ sym (cond-false _ _ _ other) ∙ is))
    (λ mark. let below = mark_at-shorter byte text rest token (sym (cond-false _ _ _ mark) ∙ sym (cond-false _ _ _ other) ∙ is) in omega arith)
    (cases_Bool (is_name_start byte)))
    (cases_Bool (is_digit byte))

-- a text has one list of tokens
pub lexes_one : (text : List ℕ) (xs ys : List Token) → Lexes text xs → Lexes text ys → xs ≡ ys
lexes_one text [] [] a b = refl
lexes_one text [] (y ∷ ys) a b = absurd (let e = ap first_token a in cc)
lexes_one text (x ∷ xs) [] a b = absurd (let e = ap first_token b in cc)
lexes_one text (x ∷ xs) (y ∷ ys) a b =
    let same = some_pair_parts x y a.0 b.0 (sym a.1 ∙ b.1) in
    let tails = lexes_one b.0 xs ys (subst (λ r. Lexes r xs) same.1 a.2) b.2 in
    ap (λ t. t ∷ xs) same.0 ∙ ap (λ ts. y ∷ ts) tails

pub empty_is : (text : List ℕ) → length text ≡ 0 → text ≡ []
empty_is [] is = refl
empty_is (byte ∷ text) is = absurd (omega arith)

module _ (rest start after : List ℕ) (token : Token) (is : start ≡ trimmed rest) (read : first_token start ≡ Some (token, after)) where
  pub lexes_more : (ts : List Token) → Lexes after ts → Lexes rest (token ∷ ts)
  lexes_more ts h = (after, ap first_token (sym is) ∙ read, h)

  pub lexes_only : (ts : List Token) → Lexes rest ts → (more : List Token) × (ts ≡ token ∷ more) × Lexes after more
  lexes_only [] h = absurd (let e = ap first_token (is ∙ h) in cc)
  lexes_only (t ∷ ts) h =
      let same = some_pair_parts t token h.0 after (sym h.1 ∙ ap first_token (sym is) ∙ read) in
      (ts, ap (λ x. x ∷ ts) same.0, subst (λ r. Lexes r ts) same.1 h.2)

  pub after-shorter : length after < length rest
  after-shorter =
      let first = first_token-shorter start after token read in
      let trim = trimmed-shorter rest in
      let same = ap length is in
      omega arith

-- where there is no token at the front, no list of tokens is that of a text with more than blanks
pub lexes_none : (rest start : List ℕ) → start ≡ trimmed rest → length start ≢ 0 → first_token start ≡ None → (ts : List Token) → Lexes rest ts → ⊥
lexes_none rest start is some none [] h = some (ap length (is ∙ h))
lexes_none rest start is some none (t ∷ ts) h = let e = ap first_token is in cc (h.1)

-- the tokens so far, with one more
module _ (text : List ℕ) (so_far : List Token) (rest start after : List ℕ) (token : Token) (is : start ≡ trimmed rest) (read : first_token start ≡ Some (token, after)) where
  pub found_more : ((ts : List Token) → Lexes rest ts → Lexes text (so_far ++ ts)) → (ts : List Token) → Lexes after ts → Lexes text ((so_far ++ token ∷ []) ++ ts)
  found_more found ts h = rw (append_assoc so_far (token ∷ []) ts) (found (token ∷ ts) (lexes_more rest start after token is read ts h))

  pub only_more : ((ts : List Token) → Lexes text ts → (more : List Token) × (ts ≡ so_far ++ more) × Lexes rest more) → (ts : List Token) → Lexes text ts → (more : List Token) × (ts ≡ (so_far ++ token ∷ []) ++ more) × Lexes after more
  only_more only ts h =
      let before = only ts h in
      let next = lexes_only rest start after token is read before.0 before.2 in
      (next.0, before.1 ∙ ap (λ l. so_far ++ l) next.1 ∙ sym (append_assoc so_far (token ∷ []) next.0), next.2)
