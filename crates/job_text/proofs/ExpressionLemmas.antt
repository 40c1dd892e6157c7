-- Expressions: what is read is spelled so, and what is spelled so is read.
use Rattle.std.proofs.Common.{◌≡◌, ◌≢◌, ℕ, zero, suc, ◌<◌, ◌≤◌, Bool, Some, None, option_map, List, [], ◌∷◌, ◌++◌, length, length-append, append_assoc, refl, sym, ap, subst, ◌∙◌, arith}
use Rattle.std.specs.Prelude.{option_and_then}
use Rattle.std.proofs.lemmas.Option.{some_pair_parts}
use Rattle.bern_base.specs.declared.raw.RawExpr.{RawExpr, out-RawExpr, roll-RawExpr, out-roll-RawExpr, roll-out-RawExpr}
use Rattle.bern_base.specs.declared.raw.RawProduct.{RawProduct, roll-RawProduct}
use Rattle.bern_base.specs.declared.raw.RawFactor.{RawFactor}
use Rattle.bern_base.specs.declared.raw.RawFactor.TheVariants as factor
use Rattle.job_text.specs.declared.tokens.Token.{Token}
use Rattle.job_text.specs.declared.tokens.Token.TheVariants.{Num, Mark}
use Rattle.job_text.specs.declared.tokens.Mark.TheVariants as m
use Rattle.job_text.specs.Grammar.{Spread, Led, sign, with_sign, IsFactor, IsProduct, IsExpr, star, product_sign}
use Rattle.job_text.specs.NestReading.{Reads, sign_at, star_at, first_sign, ref_at, unparen_at, as_read, factor_at, starred_at, factors_at, product_at, products_at, expr_at}
use Rattle.job_text.proofs.TokenLemmas.{mapped-some}
use Rattle.job_text.proofs.ListLemmas.{sound_list, complete_list, spread_few, spread_some}
use Rattle.job_text.proofs.SumLemmas.{bound-some, sound_ref, complete_ref, Stops, NoStar, Stops-star, Stops-sign, sound_signed, complete_signed, joins_sign, joined_sign, sign_no_star}

-- the token of the one state of factors
abbrev pub star_mark : Unit {0} → Token
star_mark led = Mark m.Star

abbrev pub led_state : RawFactor → Unit {0}
led_state x = tt

joins_star : (tokens rest : List Token) (led : Unit {0}) → star_at tokens ≡ Some (led, rest) → tokens ≡ star_mark led ∷ rest
joins_star (Mark m.Star ∷ tokens) rest led is = ap (λ t. Mark m.Star ∷ t) (some_pair_parts tt led tokens rest is).1
joins_star tokens rest led is = absurd cc

pub NoStar-join : (tokens : List Token) → NoStar tokens → star_at tokens ≡ None
NoStar-join (Mark m.Star ∷ tokens) free = absurd free
NoStar-join tokens free = refl

module _ (inner : List Token → Reads RawExpr) (Inner : RawExpr → List Token → Type 0) where
  module _ (sound_inner : (tokens rest : List Token) (x : RawExpr) → inner tokens ≡ Some (x, rest) → (front : List Token) × (tokens ≡ front ++ rest) × Inner x front) where
    abbrev ReadsFactor : List Token → List Token → RawFactor → Type 0
    ReadsFactor tokens rest x = (front : List Token) × (tokens ≡ front ++ rest) × IsFactor Inner x front

    sound_unparen : (mid after rest : List Token) (e : RawExpr) (x : RawFactor) → Inner e mid → unparen_at e after ≡ Some (x, rest) → ReadsFactor (Mark m.Paren ∷ (mid ++ after)) rest x
    sound_unparen mid (Mark m.Unparen ∷ after) rest e x are is =
        let same = some_pair_parts (factor.Group e) x after rest is in
        let whole : Mark m.Paren ∷ (mid ++ Mark m.Unparen ∷ after) ≡ (Mark m.Paren ∷ mid ++ Mark m.Unparen ∷ []) ++ rest =
        ap (λ t. Mark m.Paren ∷ t) (sym (append_assoc mid (Mark m.Unparen ∷ []) after)) ∙ ap (λ t. (Mark m.Paren ∷ mid ++ Mark m.Unparen ∷ []) ++ t) same.1 in
        subst (ReadsFactor (Mark m.Paren ∷ (mid ++ Mark m.Unparen ∷ after)) rest) same.0 (Mark m.Paren ∷ mid ++ Mark m.Unparen ∷ [], whole, (mid, refl, are))
    sound_unparen mid after rest e x are is = absurd cc

    read_ref : (tokens rest : List Token) (x : RawFactor) → option_map as_read (ref_at tokens) ≡ Some (x, rest) → ReadsFactor tokens rest x
    read_ref tokens rest x is =
        let read = mapped-some as_read (ref_at tokens) (x, rest) is in
        let same = some_pair_parts (factor.Read read.0.0) x read.0.1 rest (ap Some read.2) in
        subst (ReadsFactor tokens rest) same.0 (sound_ref tokens rest read.0.0 (read.1 ∙ ap (λ r. Some (read.0.0, r)) same.1))

    sound_factor : (tokens rest : List Token) (x : RawFactor) → factor_at inner tokens ≡ Some (x, rest) → ReadsFactor tokens rest x
    unfolding factor_at
    sound_factor (Num n ∷ tokens) rest x is =
        let same = some_pair_parts (factor.Num n) x tokens rest is in
        subst (ReadsFactor (Num n ∷ tokens) rest) same.0 (Num n ∷ [], ap (λ t. Num n ∷ t) same.1, refl)
    sound_factor (Mark m.Paren ∷ tokens) rest x is =
        let read = bound-some (λ p. unparen_at p.0 p.1) (inner tokens) (x, rest) is in
        let first = sound_inner tokens read.0.1 read.0.0 read.1 in
        subst (λ ts. ReadsFactor (Mark m.Paren ∷ ts) rest x) (sym first.1) (sound_unparen first.0 read.0.1 rest read.0.0 x first.2 read.2)
    sound_factor tokens rest x is = read_ref tokens rest x is

    abbrev pub ReadsProduct : Bool → List Token → List Token → RawProduct → Type 0
    ReadsProduct minus tokens rest x = (x.minus ≡ minus) × ((front : List Token) × (tokens ≡ front ++ rest) × IsProduct Inner x front)

    pub sound_product : (n : ℕ) (minus : Bool) (tokens rest : List Token) (x : RawProduct) → product_at inner n minus tokens ≡ Some (x, rest) → ReadsProduct minus tokens rest x
    unfolding product_at
    sound_product n minus tokens rest x is =
        let read = mapped-some (λ p. (roll-RawProduct (record { minus = minus; factors = p.0 }), p.1)) (factors_at inner n tokens) (x, rest) is in
        let same = some_pair_parts (roll-RawProduct (record { minus = minus; factors = read.0.0 })) x read.0.1 rest (ap Some read.2) in
        let found = sound_list (IsFactor Inner) star_mark led_state (starred_at inner) star_at (λ s ts r i e. (refl, sound_factor ts r i e)) joins_star n tt tokens rest read.0.0 (read.1 ∙ ap (λ r. Some (read.0.0, r)) same.1) in
        subst (ReadsProduct minus tokens rest) same.0 (refl, found)

  module _ (bound : ℕ) (complete_inner : (front rest : List Token) (x : RawExpr) → Inner x front → Stops rest → length (front ++ rest) < bound → inner (front ++ rest) ≡ Some (x, rest)) where
    complete_factor : (front rest : List Token) (x : RawFactor) → IsFactor Inner x front → length (front ++ rest) < bound → factor_at inner (front ++ rest) ≡ Some (x, rest)
    unfolding factor_at
    complete_factor front rest (factor.Num n) is below = ap (λ f. factor_at inner (f ++ rest)) is
    complete_factor front rest (factor.Read ref) is below =
        ap (λ f. factor_at inner (f ++ rest)) is.1
        ∙ ap (option_map as_read) (ap (λ f. ref_at (f ++ rest)) (sym is.1) ∙ complete_ref front rest ref is)
    complete_factor front rest (factor.Group e) is below =
        let whole : front ++ rest ≡ Mark m.Paren ∷ (is.0 ++ Mark m.Unparen ∷ rest) = ap (λ f. f ++ rest) is.1 ∙ ap (λ t. Mark m.Paren ∷ t) (append_assoc is.0 (Mark m.Unparen ∷ []) rest) in
        let size = ap length whole in
        ap (factor_at inner) whole ∙ ap (option_and_then (λ p. unparen_at p.0 p.1)) (complete_inner is.0 (Mark m.Unparen ∷ rest) e is.2 tt (omega arith))

    pub complete_product : (n : ℕ) (minus : Bool) (front rest : List Token) (x : RawProduct) → bound ≤ n → x.minus ≡ minus → IsProduct Inner x front → NoStar rest → length (front ++ rest) < bound → product_at inner n minus (front ++ rest) ≡ Some (x, rest)
    unfolding product_at
    complete_product n minus front rest x fuel led is free below =
        let few = spread_few (IsFactor Inner) star_mark led_state x.factors (Mark m.Star ∷ front) is in
        let size = length-append front rest in
        let read = complete_list (IsFactor Inner) star_mark led_state (starred_at inner) star_at (λ _. Unit {0}) bound (λ s f r i e it _ b. complete_factor f r i it b) (λ _ _. tt) (λ _ _. refl)
        x.factors n tt front rest (omega arith) is tt (NoStar-join rest free) below in
        ap (option_map (λ p. (roll-RawProduct (record { minus = minus; factors = p.0 }), p.1))) read ∙ ap (λ b. Some (record { minus = b; factors = x.factors }, rest)) (sym led)

  factor_some : (x : RawFactor) (tokens : List Token) → IsFactor Inner x tokens → tokens ≢ []
  factor_some (factor.Num n) tokens is none = cc
  factor_some (factor.Read ref) tokens is none = let e = is.1 in cc
  factor_some (factor.Group e) tokens is none = let w = is.1 in cc

  pub product_some : (x : RawProduct) (tokens : List Token) → IsProduct Inner x tokens → tokens ≢ []
  product_some x tokens is none = spread_some (IsFactor Inner) star_mark led_state factor_some x.factors (Mark m.Star) (subst (λ ts. Spread (Led star (IsFactor Inner)) x.factors (Mark m.Star ∷ ts)) none is)

abbrev pub ReadsExpr : ℕ → List Token → List Token → RawExpr → Type 0
ReadsExpr levels tokens rest x = (front : List Token) × (tokens ≡ front ++ rest) × IsExpr levels x front

pub sound_expr : (n levels : ℕ) (tokens rest : List Token) (x : RawExpr) → expr_at n levels tokens ≡ Some (x, rest) → ReadsExpr levels tokens rest x
unfolding expr_at IsExpr
sound_expr n zero tokens rest x is = absurd cc
sound_expr n (suc levels) tokens rest x is =
    let first = first_sign tokens in
    let read = mapped-some (λ p. (roll-RawExpr (record { sums = p.0 }), p.1)) (products_at n levels first.0 first.1) (x, rest) is in
    let same = some_pair_parts (roll-RawExpr (record { sums = read.0.0 })) x read.0.1 rest (ap Some read.2) in
    let found = sound_list (IsProduct (IsExpr levels)) sign (λ p. p.minus) (product_at (expr_at n levels) n) sign_at
    (λ s ts r p e. sound_product (expr_at n levels) (IsExpr levels) (sound_expr n levels) n s ts r p e) joins_sign n first.0 first.1 rest read.0.0 (read.1 ∙ ap (λ r. Some (read.0.0, r)) same.1) in
    let all = sound_signed (IsProduct (IsExpr levels)) (λ p. p.minus) read.0.0 rest tokens found in
    subst (ReadsExpr (suc levels) tokens rest) same.0 (all.0, all.1, subst (λ e. Spread (Led product_sign (IsProduct (IsExpr levels))) e.sums (with_sign all.0)) (sym (out-roll-RawExpr (record { sums = read.0.0 }))) all.2)

pub complete_expr : (bound n levels : ℕ) (front rest : List Token) (x : RawExpr) → bound ≤ n → IsExpr levels x front → Stops rest → length (front ++ rest) < bound → expr_at n levels (front ++ rest) ≡ Some (x, rest)
unfolding expr_at IsExpr
complete_expr bound n zero front rest x fuel is stops below = absurd is
complete_expr bound n (suc levels) front rest x fuel is stops below =
    let xs = (out-RawExpr x).sums in
    let inner = λ (f r : List Token) (e : RawExpr) (i : IsExpr levels e f) (s : Stops r) (b : length (f ++ r) < bound). complete_expr bound n levels f r e fuel i s b in
    let read = complete_signed (IsProduct (IsExpr levels)) (λ p. p.minus) (product_some (expr_at n levels) (IsExpr levels)) (products_at n levels) xs front rest
    (λ s tail shorter spread. complete_list (IsProduct (IsExpr levels)) sign (λ p. p.minus) (product_at (expr_at n levels) n) sign_at NoStar bound
    (λ b f r p led it free small. complete_product (expr_at n levels) (IsExpr levels) bound inner n b f r p fuel led it free small) sign_no_star joined_sign
    xs n s tail rest (few s tail spread shorter) spread (Stops-star rest stops) (Stops-sign rest stops) (omega arith))
    is in
    ap (option_map (λ p. (roll-RawExpr (record { sums = p.0 }), p.1))) read ∙ ap (λ e. Some (e, rest)) (roll-out-RawExpr x)
  where
    few : (s : Bool) (tail : List Token) → Spread (Led product_sign (IsProduct (IsExpr levels))) (out-RawExpr x).sums (sign s ∷ tail) → length (tail ++ rest) ≤ length (front ++ rest) → length (out-RawExpr x).sums ≤ n
    few s tail spread shorter =
        let some = spread_few (IsProduct (IsExpr levels)) sign (λ p. p.minus) (out-RawExpr x).sums (sign s ∷ tail) spread in
        let size = length-append tail rest in
        omega arith
