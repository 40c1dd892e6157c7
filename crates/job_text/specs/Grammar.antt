-- The grammar of nest lines, as relations between what is meant and a whole list of tokens.
use Rattle.std.specs.Prelude.{◌≡◌, ℕ, ◌≤◌, ◌⊎◌, Bool, true, false, Option, Some, None, List, [], ◌∷◌, ◌++◌, length, zero, suc, ◌≢◌}
use Rattle.bern_base.specs.declared.limits.TheConstants.{EXPRESSION_LEVELS, MOST_ITEMS, MOST_SUM_NUMBER}
use Rattle.bern_base.specs.declared.raw.RawItem.{RawItem}
use Rattle.bern_base.specs.declared.raw.RawSum.{RawSum}
use Rattle.bern_base.specs.declared.raw.RawRef.{RawRef}
use Rattle.bern_base.specs.declared.raw.RawVar.{RawVar}
use Rattle.bern_base.specs.declared.raw.RawGuard.{RawGuard}
use Rattle.bern_base.specs.declared.raw.RawNest.{RawNest}
use Rattle.bern_base.specs.declared.raw.Rel.{Rel}
use Rattle.bern_base.specs.declared.raw.Rel.TheVariants as rel
use Rattle.bern_base.specs.declared.raw.RawExpr.{RawExpr, out-RawExpr}
use Rattle.bern_base.specs.declared.raw.RawProduct.{RawProduct}
use Rattle.bern_base.specs.declared.raw.RawFactor.{RawFactor}
use Rattle.bern_base.specs.declared.raw.RawFactor.TheVariants as factor
use Rattle.job_text.specs.declared.tokens.Token.{Token}
use Rattle.job_text.specs.declared.tokens.Token.TheVariants.{Name, Num, Mark}
use Rattle.job_text.specs.declared.tokens.Mark.TheVariants as m

-- the tokens are those of the things, one after the other
abbrev pub Spread : {A : Type 0} → (A → List Token → Type 0) → List A → List Token → Type 0
Spread Is [] tokens = tokens ≡ []
Spread Is (x ∷ xs) tokens = (front back : List Token) × (tokens ≡ front ++ back) × Is x front × Spread Is xs back

-- a thing after the token that leads it
abbrev pub Led : {A : Type 0} → (A → Token) → (A → List Token → Type 0) → A → List Token → Type 0
Led lead Is x tokens = (rest : List Token) × (tokens ≡ lead x ∷ rest) × Is x rest

abbrev pub sign : Bool → Token
sign true = Mark m.Minus
sign false = Mark m.Plus

-- a sum that does not begin with a minus is as though it began with a plus
abbrev pub with_sign : List Token → List Token
with_sign (Mark m.Minus ∷ tokens) = Mark m.Minus ∷ tokens
with_sign tokens = Mark m.Plus ∷ tokens

-- a number, a multiple of a name, or a name alone, which stands for one of it
abbrev pub IsTimes : ℕ → Option (List ℕ) → List Token → Type 0
IsTimes n None tokens = (n ≤ MOST_SUM_NUMBER) × (tokens ≡ Num n ∷ [])
IsTimes n (Some name) tokens =
    ((n ≤ MOST_SUM_NUMBER) × (tokens ≡ Num n ∷ Mark m.Star ∷ Name name ∷ [])) ⊎ ((n ≡ 1) × (tokens ≡ Name name ∷ []))

abbrev pub IsItem : RawItem → List Token → Type 0
IsItem item tokens = IsTimes item.number item.name tokens

abbrev pub item_sign : RawItem → Token
item_sign item = sign item.minus

-- items, each after its sign, at most as many as a sum may have
pub record IsSum (sum : RawSum) (tokens : List Token) : Type 0 where
  pub items : Spread (Led item_sign IsItem) sum.items (with_sign tokens)
  pub at_most : length sum.items ≤ MOST_ITEMS

-- one subscript, or two with a comma between them
abbrev pub AreSubs : List RawSum → List Token → Type 0
AreSubs [] tokens = ⊥
AreSubs (only ∷ []) tokens = IsSum only tokens
AreSubs (row ∷ col ∷ []) tokens = (front back : List Token) × (tokens ≡ front ++ Mark m.Comma ∷ back) × IsSum row front × IsSum col back
AreSubs (row ∷ col ∷ more ∷ subs) tokens = ⊥

-- an array's name and its subscripts in brackets
abbrev pub IsRef : RawRef → List Token → Type 0
IsRef ref tokens = (subs : List Token) × (tokens ≡ Name ref.name ∷ Mark m.Open ∷ subs ++ Mark m.Close ∷ []) × AreSubs ref.subs subs

abbrev pub star : RawFactor → Token
star factor = Mark m.Star

-- `Inner` is what stands in parentheses
module _ (Inner : RawExpr → List Token → Type 0) where
  abbrev pub IsFactor : RawFactor → List Token → Type 0
  IsFactor (factor.Num n) tokens = tokens ≡ Num n ∷ []
  IsFactor (factor.Read ref) tokens = IsRef ref tokens
  IsFactor (factor.Group inner) tokens = (mid : List Token) × (tokens ≡ Mark m.Paren ∷ mid ++ Mark m.Unparen ∷ []) × Inner inner mid

  -- factors with stars between them: as though a star led the first one too
  abbrev pub IsProduct : RawProduct → List Token → Type 0
  IsProduct product tokens = Spread (Led star IsFactor) product.factors (Mark m.Star ∷ tokens)

abbrev pub product_sign : RawProduct → Token
product_sign product = sign product.minus

-- products, each after its sign; what stands in parentheses has a level less
unfoldable pub IsExpr : ℕ → RawExpr → List Token → Type 0
IsExpr zero expr tokens = ⊥
IsExpr (suc levels) expr tokens = Spread (Led product_sign (IsProduct (IsExpr levels))) (out-RawExpr expr).sums (with_sign tokens)

-- a variable's first bound and the one that it stays below
abbrev pub IsSpan : RawVar → List Token → Type 0
IsSpan var tokens = (lo hi : List Token) × (tokens ≡ lo ++ Mark m.Dots ∷ hi) × IsSum var.lo lo × IsSum var.hi hi

abbrev pub var_name : RawVar → Token
var_name var = Name var.name

abbrev pub comparison : Rel → Token
comparison rel.Lt = Mark m.Lt
comparison rel.Le = Mark m.Le
comparison rel.Gt = Mark m.Gt
comparison rel.Ge = Mark m.Ge
comparison rel.Eq = Mark m.Eq
comparison rel.Ne = Mark m.Ne

abbrev pub IsGuard : RawGuard → List Token → Type 0
IsGuard guard tokens =
    (left right : List Token) × (tokens ≡ left ++ comparison guard.rel ∷ right) × IsSum guard.left left × IsSum guard.right right

abbrev pub comma : RawGuard → Token
comma guard = Mark m.Comma

-- nothing, or guards after `where` with commas between them: as though a comma led the first one too
abbrev pub AreGuards : List RawGuard → List Token → Type 0
AreGuards [] tokens = tokens ≡ []
AreGuards (guard ∷ guards) tokens =
    (rest : List Token) × (tokens ≡ Mark m.Where ∷ rest) × Spread (Led comma IsGuard) (guard ∷ guards) (Mark m.Comma ∷ rest)

abbrev pub assignment : Bool → Token
assignment true = Mark m.Assign
assignment false = Mark m.Add

-- a nest is `doany`, one or more variables, its guards, a colon, the target, `=` or `+=`, and the body
pub record IsNest (nest : RawNest) (tokens : List Token) : Type 0 where
  pub vars : List Token
  pub guards : List Token
  pub target : List Token
  pub body : List Token
  pub whole : tokens ≡ Mark m.Doany ∷ (vars ++ (guards ++ (Mark m.Colon ∷ (target ++ (assignment nest.replace ∷ body)))))
  pub are_vars : Spread (Led var_name IsSpan) nest.vars vars
  pub some_vars : nest.vars ≢ []
  pub are_guards : AreGuards nest.guards guards
  pub is_target : IsRef nest.target target
  pub is_body : IsExpr EXPRESSION_LEVELS nest.body body
