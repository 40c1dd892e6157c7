-- What the readers of nest lines answer: what stands at the front of a list of tokens, and the tokens that are left.
use Rattle.std.specs.Prelude.{ℕ, Bool, true, false, Option, Some, None, option_map, option_and_then, List, [], ◌∷◌, ◌++◌, zero, suc, nat_le, if◌then◌else◌}
use Rattle.bern_base.specs.declared.limits.TheConstants.{EXPRESSION_LEVELS, MOST_ITEMS, MOST_SUM_NUMBER}
use Rattle.bern_base.specs.declared.raw.RawItem.{RawItem}
use Rattle.bern_base.specs.declared.raw.RawSum.{RawSum}
use Rattle.bern_base.specs.declared.raw.RawRef.{RawRef}
use Rattle.bern_base.specs.declared.raw.RawVar.{RawVar}
use Rattle.bern_base.specs.declared.raw.RawGuard.{RawGuard}
use Rattle.bern_base.specs.declared.raw.RawNest.{RawNest}
use Rattle.bern_base.specs.declared.raw.Rel.{Rel}
use Rattle.bern_base.specs.declared.raw.Rel.TheVariants as rel
use Rattle.bern_base.specs.declared.raw.RawExpr.{RawExpr, roll-RawExpr}
use Rattle.bern_base.specs.declared.raw.RawProduct.{RawProduct, roll-RawProduct}
use Rattle.bern_base.specs.declared.raw.RawFactor.{RawFactor}
use Rattle.bern_base.specs.declared.raw.RawFactor.TheVariants as factor
use Rattle.job_text.specs.declared.tokens.Token.{Token}
use Rattle.job_text.specs.declared.tokens.Token.TheVariants.{Name, Num, Mark}
use Rattle.job_text.specs.declared.tokens.Mark.TheVariants as m

abbrev pub Reads : Type 0 → Type 0
Reads A = Option (A × List Token)

abbrev pub with_front : {A : Type 0} → List A → Reads (List A) → Reads (List A)
with_front front None = None
with_front front (Some p) = Some (front ++ p.0, p.1)

-- things that `one` reads, as long as `join` finds what leads the next one; at most n of them
module _ {A S : Type 0} (one : S → List Token → Reads A) (join : List Token → Reads S) where
  abbrev pub carried : (S → List Token → Reads (List A)) → A → List Token → Reads S → Reads (List A)
  carried more x tokens None = Some (x ∷ [], tokens)
  carried more x tokens (Some p) = with_front (x ∷ []) (more p.0 p.1)

  abbrev pub goes_on : (S → List Token → Reads (List A)) → Reads A → Reads (List A)
  goes_on more None = None
  goes_on more (Some p) = carried more p.0 p.1 (join p.1)

  unfoldable pub list_at : ℕ → S → List Token → Reads (List A)
  list_at zero state tokens = None
  list_at (suc n) state tokens = goes_on (list_at n) (one state tokens)

abbrev pub sign_at : List Token → Reads Bool
sign_at (Mark m.Minus ∷ tokens) = Some (true, tokens)
sign_at (Mark m.Plus ∷ tokens) = Some (false, tokens)
sign_at tokens = None

abbrev pub first_sign : List Token → Bool × List Token
first_sign (Mark m.Minus ∷ tokens) = (true, tokens)
first_sign tokens = (false, tokens)

abbrev pub limited_item : Bool → ℕ → Option (List ℕ) → List Token → Reads RawItem
limited_item minus n name tokens =
    if nat_le n MOST_SUM_NUMBER then Some (record { minus = minus; number = n; name = name }, tokens) else None

unfoldable pub item_at : Bool → List Token → Reads RawItem
item_at minus (Num n ∷ Mark m.Star ∷ Name name ∷ tokens) = limited_item minus n (Some name) tokens
item_at minus (Num n ∷ tokens) = limited_item minus n None tokens
item_at minus (Name name ∷ tokens) = Some (record { minus = minus; number = 1; name = Some name }, tokens)
item_at minus tokens = None

abbrev pub items_at : Bool → List Token → Reads (List RawItem)
items_at minus tokens = list_at item_at sign_at MOST_ITEMS minus tokens

abbrev pub as_sum : List RawItem × List Token → RawSum × List Token
as_sum p = (record { items = p.0 }, p.1)

unfoldable pub sum_at : List Token → Reads RawSum
sum_at tokens = option_map as_sum (items_at (first_sign tokens).0 (first_sign tokens).1)

abbrev pub second_at : RawSum → List Token → Reads (List RawSum)
second_at row (Mark m.Comma ∷ tokens) = option_map (λ p. (row ∷ p.0 ∷ [], p.1)) (sum_at tokens)
second_at row tokens = Some (row ∷ [], tokens)

unfoldable pub subs_at : List Token → Reads (List RawSum)
subs_at tokens = option_and_then (λ p. second_at p.0 p.1) (sum_at tokens)

abbrev pub closed_at : {A : Type 0} → A → List Token → Reads A
closed_at x (Mark m.Close ∷ tokens) = Some (x, tokens)
closed_at x tokens = None

unfoldable pub ref_at : List Token → Reads RawRef
ref_at (Name name ∷ Mark m.Open ∷ tokens) = option_and_then (λ p. closed_at (record { name = name; subs = p.0 }) p.1) (subs_at tokens)
ref_at tokens = None

abbrev pub star_at : List Token → Reads (Unit {0})
star_at (Mark m.Star ∷ tokens) = Some (tt, tokens)
star_at tokens = None

abbrev pub unparen_at : RawExpr → List Token → Reads RawFactor
unparen_at inner (Mark m.Unparen ∷ tokens) = Some (factor.Group inner, tokens)
unparen_at inner tokens = None

abbrev pub as_read : RawRef × List Token → RawFactor × List Token
as_read p = (factor.Read p.0, p.1)

-- `inner` reads what stands in parentheses
module _ (inner : List Token → Reads RawExpr) where
  unfoldable pub factor_at : List Token → Reads RawFactor
  factor_at (Num n ∷ tokens) = Some (factor.Num n, tokens)
  factor_at (Mark m.Paren ∷ tokens) = option_and_then (λ p. unparen_at p.0 p.1) (inner tokens)
  factor_at tokens = option_map as_read (ref_at tokens)

  abbrev pub starred_at : Unit {0} → List Token → Reads RawFactor
  starred_at led tokens = factor_at tokens

  abbrev pub factors_at : ℕ → List Token → Reads (List RawFactor)
  factors_at n tokens = list_at starred_at star_at n tt tokens

  unfoldable pub product_at : ℕ → Bool → List Token → Reads RawProduct
  product_at n minus tokens = option_map (λ p. (roll-RawProduct (record { minus = minus; factors = p.0 }), p.1)) (factors_at n tokens)

-- parentheses within parentheses at most this many levels deep, and lists of at most n
unfoldable pub expr_at : ℕ → ℕ → List Token → Reads RawExpr
expr_at n zero tokens = None
expr_at n (suc levels) tokens =
    option_map (λ p. (roll-RawExpr (record { sums = p.0 }), p.1))
    (list_at (product_at (expr_at n levels) n) sign_at n (first_sign tokens).0 (first_sign tokens).1)

abbrev pub products_at : ℕ → ℕ → Bool → List Token → Reads (List RawProduct)
products_at n levels minus tokens = list_at (product_at (expr_at n levels) n) sign_at n minus tokens

abbrev pub as_var : List ℕ → RawSum → RawSum × List Token → RawVar × List Token
as_var name lo p = (record { name = name; lo = lo; hi = p.0 }, p.1)

abbrev pub to_at : List ℕ → RawSum → List Token → Reads RawVar
to_at name lo (Mark m.Dots ∷ tokens) = option_map (as_var name lo) (sum_at tokens)
to_at name lo tokens = None

unfoldable pub span_at : List ℕ → List Token → Reads RawVar
span_at name tokens = option_and_then (λ p. to_at name p.0 p.1) (sum_at tokens)

abbrev pub name_at : List Token → Reads (List ℕ)
name_at (Name name ∷ tokens) = Some (name, tokens)
name_at tokens = None

abbrev pub vars_from : ℕ → List ℕ → List Token → Reads (List RawVar)
vars_from n name tokens = list_at span_at name_at n name tokens

abbrev pub vars_at : ℕ → List Token → Reads (List RawVar)
vars_at n (Name name ∷ tokens) = vars_from n name tokens
vars_at n tokens = None

abbrev pub rel_at : List Token → Reads Rel
rel_at (Mark m.Lt ∷ tokens) = Some (rel.Lt, tokens)
rel_at (Mark m.Le ∷ tokens) = Some (rel.Le, tokens)
rel_at (Mark m.Gt ∷ tokens) = Some (rel.Gt, tokens)
rel_at (Mark m.Ge ∷ tokens) = Some (rel.Ge, tokens)
rel_at (Mark m.Eq ∷ tokens) = Some (rel.Eq, tokens)
rel_at (Mark m.Ne ∷ tokens) = Some (rel.Ne, tokens)
rel_at tokens = None

abbrev pub as_guard : RawSum → Rel → RawSum × List Token → RawGuard × List Token
as_guard left relation p = (record { left = left; rel = relation; right = p.0 }, p.1)

abbrev pub right_at : RawSum → Rel × List Token → Reads RawGuard
right_at left p = option_map (as_guard left p.0) (sum_at p.1)

abbrev pub compared_at : RawSum → List Token → Reads RawGuard
compared_at left tokens = option_and_then (right_at left) (rel_at tokens)

unfoldable pub guard_at : Unit {0} → List Token → Reads RawGuard
guard_at led tokens = option_and_then (λ p. compared_at p.0 p.1) (sum_at tokens)

abbrev pub comma_at : List Token → Reads (Unit {0})
comma_at (Mark m.Comma ∷ tokens) = Some (tt, tokens)
comma_at tokens = None

abbrev pub guards_from : ℕ → List Token → Reads (List RawGuard)
guards_from n tokens = list_at guard_at comma_at n tt tokens

abbrev pub guards_at : ℕ → List Token → Reads (List RawGuard)
guards_at n (Mark m.Where ∷ tokens) = guards_from n tokens
guards_at n tokens = Some ([], tokens)

-- nothing is left
abbrev pub ended_at : {A : Type 0} → A → List Token → Option A
ended_at x [] = Some x
ended_at x (token ∷ tokens) = None

unfoldable pub whole_at : ℕ → List Token → Option RawExpr
whole_at n tokens = option_and_then (λ p. ended_at p.0 p.1) (expr_at n EXPRESSION_LEVELS tokens)

abbrev pub assign_at : List Token → Reads Bool
assign_at (Mark m.Assign ∷ tokens) = Some (true, tokens)
assign_at (Mark m.Add ∷ tokens) = Some (false, tokens)
assign_at tokens = None

abbrev pub as_nest : List RawVar → List RawGuard → RawRef → Bool → RawExpr → RawNest
as_nest vars guards target replace body = record { vars = vars; guards = guards; target = target; replace = replace; body = body }

abbrev pub body_at : ℕ → List RawVar → List RawGuard → RawRef → Bool × List Token → Option RawNest
body_at n vars guards target p = option_map (as_nest vars guards target p.0) (whole_at n p.1)

abbrev pub assigned_at : ℕ → List RawVar → List RawGuard → RawRef × List Token → Option RawNest
assigned_at n vars guards p = option_and_then (body_at n vars guards p.0) (assign_at p.1)

-- from the colon on
unfoldable pub statement_at : ℕ → List RawVar → List RawGuard → List Token → Option RawNest
statement_at n vars guards (Mark m.Colon ∷ tokens) = option_and_then (assigned_at n vars guards) (ref_at tokens)
statement_at n vars guards tokens = None

abbrev pub guarded_at : ℕ → List RawVar × List Token → Option RawNest
guarded_at n p = option_and_then (λ q. statement_at n p.0 q.0 q.1) (guards_at n p.1)

unfoldable pub nest_at : ℕ → List Token → Option RawNest
nest_at n (Mark m.Doany ∷ tokens) = option_and_then (guarded_at n) (vars_at n tokens)
nest_at n tokens = None
