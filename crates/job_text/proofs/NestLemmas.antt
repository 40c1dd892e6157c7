-- Nests: what is read is spelled so, and what is spelled so is read.
use Rattle.std.proofs.Common.{◌≡◌, ◌≢◌, ℕ, suc, ◌<◌, ◌≤◌, Bool, true, false, Some, None, option_map, List, [], ◌∷◌, ◌++◌, length, length-append, append_assoc, append-nil, refl, sym, ap, subst, ◌∙◌, arith}
use Rattle.std.specs.Prelude.{option_and_then}
use Rattle.std.proofs.lemmas.Option.{some_pair_parts, same_Some}
use Rattle.bern_base.specs.declared.limits.TheConstants.{EXPRESSION_LEVELS}
use Rattle.bern_base.specs.declared.raw.RawSum.{RawSum}
use Rattle.bern_base.specs.declared.raw.RawRef.{RawRef}
use Rattle.bern_base.specs.declared.raw.RawVar.{RawVar}
use Rattle.bern_base.specs.declared.raw.RawGuard.{RawGuard}
use Rattle.bern_base.specs.declared.raw.RawNest.{RawNest}
use Rattle.bern_base.specs.declared.raw.Rel.{Rel}
use Rattle.bern_base.specs.declared.raw.Rel.TheVariants as rel
use Rattle.bern_base.specs.declared.raw.RawExpr.{RawExpr}
use Rattle.job_text.specs.declared.tokens.Token.{Token}
use Rattle.job_text.specs.declared.tokens.Token.TheVariants.{Name, Mark}
use Rattle.job_text.specs.declared.tokens.Mark.TheVariants as m
use Rattle.job_text.specs.Grammar.{Spread, Led, IsSum, IsRef, IsExpr, IsSpan, var_name, comparison, IsGuard, comma, AreGuards, assignment, IsNest}
use Rattle.job_text.specs.NestReading.{sum_at, ref_at, expr_at, as_var, to_at, span_at, name_at, vars_at, rel_at, as_guard, right_at, compared_at, guard_at, comma_at, guards_at, ended_at, whole_at, assign_at, as_nest, body_at, assigned_at, statement_at, guarded_at, nest_at}
use Rattle.job_text.proofs.TokenLemmas.{mapped-some}
use Rattle.job_text.proofs.ListLemmas.{sound_list, complete_list, spread_few, spread_begins}
use Rattle.job_text.proofs.SumLemmas.{bound-some, sound_sum, complete_sum, sound_ref, complete_ref, Stops}
use Rattle.job_text.proofs.ExpressionLemmas.{sound_expr, complete_expr}

abbrev ReadsVar : List ℕ → List Token → List Token → RawVar → Type 0
ReadsVar name tokens rest x = (x.name ≡ name) × ((front : List Token) × (tokens ≡ front ++ rest) × IsSpan x front)

sound_to : (name : List ℕ) (lo : RawSum) (front after rest : List Token) (x : RawVar) → IsSum lo front → to_at name lo after ≡ Some (x, rest) → ReadsVar name (front ++ after) rest x
sound_to name lo front (Mark m.Dots ∷ after) rest x low is =
    let read = mapped-some (as_var name lo) (sum_at after) (x, rest) is in
    let same = some_pair_parts (record { name = name; lo = lo; hi = read.0.0 }) x read.0.1 rest (ap Some read.2) in
    let found = sound_sum after rest read.0.0 (read.1 ∙ ap (λ r. Some (read.0.0, r)) same.1) in
    let whole : front ++ Mark m.Dots ∷ after ≡ (front ++ Mark m.Dots ∷ found.0) ++ rest = ap (λ t. front ++ Mark m.Dots ∷ t) found.1 ∙ sym (append_assoc front (Mark m.Dots ∷ found.0) rest) in
    subst (ReadsVar name (front ++ Mark m.Dots ∷ after) rest) same.0 (refl, (front ++ Mark m.Dots ∷ found.0, whole, (front, found.0, refl, low, found.2)))
sound_to name lo front after rest x low is = absurd cc

sound_span : (name : List ℕ) (tokens rest : List Token) (x : RawVar) → span_at name tokens ≡ Some (x, rest) → ReadsVar name tokens rest x
unfolding span_at
sound_span name tokens rest x is =
    let read = bound-some (λ p. to_at name p.0 p.1) (sum_at tokens) (x, rest) is in
    let first = sound_sum tokens read.0.1 read.0.0 read.1 in
    subst (λ ts. ReadsVar name ts rest x) (sym first.1) (sound_to name read.0.0 first.0 read.0.1 rest x first.2 read.2)

complete_span : (name : List ℕ) (front rest : List Token) (x : RawVar) → x.name ≡ name → IsSpan x front → Stops rest → span_at name (front ++ rest) ≡ Some (x, rest)
unfolding span_at
complete_span name front rest x led is stops =
    let whole : front ++ rest ≡ is.0 ++ Mark m.Dots ∷ (is.1 ++ rest) = ap (λ f. f ++ rest) is.2 ∙ append_assoc is.0 (Mark m.Dots ∷ is.1) rest in
    ap (λ ts. option_and_then (λ p. to_at name p.0 p.1) (sum_at ts)) whole
    ∙ ap (option_and_then (λ p. to_at name p.0 p.1)) (complete_sum is.0 (Mark m.Dots ∷ (is.1 ++ rest)) x.lo is.3 tt)
    ∙ ap (option_map (as_var name x.lo)) (complete_sum is.1 rest x.hi is.4 stops)
    ∙ ap (λ n. Some (record { name = n; lo = x.lo; hi = x.hi }, rest)) (sym led)

joins_name : (tokens rest : List Token) (name : List ℕ) → name_at tokens ≡ Some (name, rest) → tokens ≡ Name name ∷ rest
joins_name (Name x ∷ tokens) rest name is = let same = some_pair_parts x name tokens rest is in ap (λ t. Name x ∷ t) same.1 ∙ ap (λ n. Name n ∷ rest) same.0
joins_name tokens rest name is = absurd cc

abbrev AreVars : List RawVar → List Token → Type 0
AreVars vars tokens = Spread (Led var_name IsSpan) vars tokens

sound_vars : (n : ℕ) (tokens rest : List Token) (xs : List RawVar) → vars_at n tokens ≡ Some (xs, rest) → (xs ≢ []) × ((front : List Token) × (tokens ≡ front ++ rest) × AreVars xs front)
sound_vars n (Name name ∷ tokens) rest xs is =
    let found = sound_list IsSpan Name (λ v. v.name) span_at name_at (λ s ts r x e. sound_span s ts r x e) joins_name n name tokens rest xs is in
    (λ none. (let e = subst (λ l. AreVars l (Name name ∷ found.0)) none found.2 in cc), (Name name ∷ found.0, ap (λ t. Name name ∷ t) found.1, found.2))
sound_vars n tokens rest xs is = absurd cc

complete_vars : (n : ℕ) (front rest : List Token) (xs : List RawVar) → xs ≢ [] → AreVars xs front → Stops rest → name_at rest ≡ None → length (front ++ rest) < n → vars_at n (front ++ rest) ≡ Some (xs, rest)
complete_vars n front rest [] some is stops last below = absurd (some refl)
complete_vars n front rest (x ∷ xs) some is stops last below =
    let begins = spread_begins IsSpan Name (λ v. v.name) x xs front is in
    let few = spread_few IsSpan Name (λ v. v.name) (x ∷ xs) front is in
    let size = length-append front rest in
    ap (λ f. vars_at n (f ++ rest)) begins.1
    ∙ complete_list IsSpan Name (λ v. v.name) span_at name_at Stops (suc (length (begins.0 ++ rest))) (λ s f r v led it end _. complete_span s f r v led it end) (λ _ _. tt) (λ _ _. refl)
    (x ∷ xs) n x.name begins.0 rest (omega arith) (subst (AreVars (x ∷ xs)) begins.1 is) stops last (omega arith)

joins_rel : (tokens rest : List Token) (r : Rel) → rel_at tokens ≡ Some (r, rest) → tokens ≡ comparison r ∷ rest
joins_rel (Mark m.Lt ∷ tokens) rest r is = let same = some_pair_parts rel.Lt r tokens rest is in ap (λ t. Mark m.Lt ∷ t) same.1 ∙ ap (λ s. comparison s ∷ rest) same.0
joins_rel (Mark m.Le ∷ tokens) rest r is = let same = some_pair_parts rel.Le r tokens rest is in ap (λ t. Mark m.Le ∷ t) same.1 ∙ ap (λ s. comparison s ∷ rest) same.0
joins_rel (Mark m.Gt ∷ tokens) rest r is = let same = some_pair_parts rel.Gt r tokens rest is in ap (λ t. Mark m.Gt ∷ t) same.1 ∙ ap (λ s. comparison s ∷ rest) same.0
joins_rel (Mark m.Ge ∷ tokens) rest r is = let same = some_pair_parts rel.Ge r tokens rest is in ap (λ t. Mark m.Ge ∷ t) same.1 ∙ ap (λ s. comparison s ∷ rest) same.0
joins_rel (Mark m.Eq ∷ tokens) rest r is = let same = some_pair_parts rel.Eq r tokens rest is in ap (λ t. Mark m.Eq ∷ t) same.1 ∙ ap (λ s. comparison s ∷ rest) same.0
joins_rel (Mark m.Ne ∷ tokens) rest r is = let same = some_pair_parts rel.Ne r tokens rest is in ap (λ t. Mark m.Ne ∷ t) same.1 ∙ ap (λ s. comparison s ∷ rest) same.0
joins_rel tokens rest r is = absurd cc

joined_rel : (r : Rel) (rest : List Token) → (rel_at (comparison r ∷ rest) ≡ Some (r, rest)) × Stops (comparison r ∷ rest)
joined_rel rel.Lt rest = (refl, tt)
joined_rel rel.Le rest = (refl, tt)
joined_rel rel.Gt rest = (refl, tt)
joined_rel rel.Ge rest = (refl, tt)
joined_rel rel.Eq rest = (refl, tt)
joined_rel rel.Ne rest = (refl, tt)

abbrev ReadsGuard : List Token → List Token → RawGuard → Type 0
ReadsGuard tokens rest x = (front : List Token) × (tokens ≡ front ++ rest) × IsGuard x front

sound_right : (left : RawSum) (front after rest : List Token) (r : Rel) (x : RawGuard) → IsSum left front → right_at left (r, after) ≡ Some (x, rest) → ReadsGuard (front ++ comparison r ∷ after) rest x
sound_right left front after rest r x are is =
    let read = mapped-some (as_guard left r) (sum_at after) (x, rest) is in
    let same = some_pair_parts (record { left = left; rel = r; right = read.0.0 }) x read.0.1 rest (ap Some read.2) in
    let found = sound_sum after rest read.0.0 (read.1 ∙ ap (λ t. Some (read.0.0, t)) same.1) in
    let whole : front ++ comparison r ∷ after ≡ (front ++ comparison r ∷ found.0) ++ rest = ap (λ t. front ++ comparison r ∷ t) found.1 ∙ sym (append_assoc front (comparison r ∷ found.0) rest) in
    subst (ReadsGuard (front ++ comparison r ∷ after) rest) same.0 (front ++ comparison r ∷ found.0, whole, (front, found.0, refl, are, found.2))

sound_guard : (led : Unit {0}) (tokens rest : List Token) (x : RawGuard) → guard_at led tokens ≡ Some (x, rest) → ReadsGuard tokens rest x
unfolding guard_at
sound_guard led tokens rest x is =
    let read = bound-some (λ p. compared_at p.0 p.1) (sum_at tokens) (x, rest) is in
    let first = sound_sum tokens read.0.1 read.0.0 read.1 in
    let second = bound-some (right_at read.0.0) (rel_at read.0.1) (x, rest) read.2 in
    let joint = joins_rel read.0.1 second.0.1 second.0.0 second.1 in
    let all = sound_right read.0.0 first.0 second.0.1 rest second.0.0 x first.2 second.2 in
    subst (λ ts. ReadsGuard ts rest x) (sym (first.1 ∙ ap (λ t. first.0 ++ t) joint)) all

complete_guard : (led : Unit {0}) (front rest : List Token) (x : RawGuard) → IsGuard x front → Stops rest → guard_at led (front ++ rest) ≡ Some (x, rest)
unfolding guard_at
complete_guard led front rest x is stops =
    let after = is.1 ++ rest in
    let joint = joined_rel x.rel after in
    let whole : front ++ rest ≡ is.0 ++ comparison x.rel ∷ after = ap (λ f. f ++ rest) is.2 ∙ append_assoc is.0 (comparison x.rel ∷ is.1) rest in
    ap (λ ts. option_and_then (λ p. compared_at p.0 p.1) (sum_at ts)) whole
    ∙ ap (option_and_then (λ p. compared_at p.0 p.1)) (complete_sum is.0 (comparison x.rel ∷ after) x.left is.3 joint.1)
    ∙ ap (option_and_then (right_at x.left)) joint.0
    ∙ ap (option_map (as_guard x.left x.rel)) (complete_sum is.1 rest x.right is.4 stops)

-- the token and the one state of guards
abbrev comma_mark : Unit {0} → Token
comma_mark led = Mark m.Comma

abbrev led_guard : RawGuard → Unit {0}
led_guard x = tt

joins_comma : (tokens rest : List Token) (led : Unit {0}) → comma_at tokens ≡ Some (led, rest) → tokens ≡ comma_mark led ∷ rest
joins_comma (Mark m.Comma ∷ tokens) rest led is = ap (λ t. Mark m.Comma ∷ t) (some_pair_parts tt led tokens rest is).1
joins_comma tokens rest led is = absurd cc

are_guards : (gs : List RawGuard) (front : List Token) → Spread (Led comma IsGuard) gs (Mark m.Comma ∷ front) → AreGuards gs (Mark m.Where ∷ front)
are_guards [] front is = absurd cc
are_guards (g ∷ gs) front is = (front, refl, is)

abbrev ReadsGuards : List Token → List Token → List RawGuard → Type 0
ReadsGuards tokens rest gs = (front : List Token) × (tokens ≡ front ++ rest) × AreGuards gs front

sound_guards : (n : ℕ) (tokens rest : List Token) (gs : List RawGuard) → guards_at n tokens ≡ Some (gs, rest) → ReadsGuards tokens rest gs
sound_guards n (Mark m.Where ∷ tokens) rest gs is =
    let found = sound_list IsGuard comma_mark led_guard guard_at comma_at (λ s ts r x e. (refl, sound_guard s ts r x e)) joins_comma n tt tokens rest gs is in
    (Mark m.Where ∷ found.0, ap (λ t. Mark m.Where ∷ t) found.1, are_guards gs found.0 found.2)
sound_guards n tokens rest gs is = let same = some_pair_parts [] gs tokens rest is in subst (ReadsGuards tokens rest) same.0 ([], same.1, refl)

complete_guards : (n : ℕ) (front rest : List Token) (gs : List RawGuard) → AreGuards gs front → length front ≤ n → guards_at n (front ++ Mark m.Colon ∷ rest) ≡ Some (gs, Mark m.Colon ∷ rest)
complete_guards n front rest [] is fuel = ap (λ f. guards_at n (f ++ Mark m.Colon ∷ rest)) is
complete_guards n front rest (g ∷ gs) is fuel =
    let few = spread_few IsGuard comma_mark led_guard (g ∷ gs) (Mark m.Comma ∷ is.0) is.2 in
    let size = ap length is.1 in
    ap (λ f. guards_at n (f ++ Mark m.Colon ∷ rest)) is.1
    ∙ complete_list IsGuard comma_mark led_guard guard_at comma_at Stops (suc (length (is.0 ++ Mark m.Colon ∷ rest))) (λ s f r x led it end _. complete_guard s f r x it end) (λ _ _. tt) (λ _ _. refl)
    (g ∷ gs) n tt is.0 (Mark m.Colon ∷ rest) (omega arith) is.2 tt refl (omega arith)

-- what follows the variables goes on with none of them
after_vars : (front rest : List Token) (gs : List RawGuard) → AreGuards gs front → Stops (front ++ Mark m.Colon ∷ rest) × (name_at (front ++ Mark m.Colon ∷ rest) ≡ None)
after_vars front rest [] is = subst (λ f. Stops (f ++ Mark m.Colon ∷ rest) × (name_at (f ++ Mark m.Colon ∷ rest) ≡ None)) (sym is) (tt, refl)
after_vars front rest (g ∷ gs) is = subst (λ f. Stops (f ++ Mark m.Colon ∷ rest) × (name_at (f ++ Mark m.Colon ∷ rest) ≡ None)) (sym is.1) (tt, refl)

sound_ended : {A : Type 0} (x y : A) (rest : List Token) → ended_at x rest ≡ Some y → (x ≡ y) × (rest ≡ [])
sound_ended x y [] is = (same_Some x y is, refl)
sound_ended x y (token ∷ rest) is = absurd cc

sound_whole : (n : ℕ) (tokens : List Token) (x : RawExpr) → whole_at n tokens ≡ Some x → IsExpr EXPRESSION_LEVELS x tokens
unfolding whole_at
sound_whole n tokens x is =
    let read = bound-some (λ p. ended_at p.0 p.1) (expr_at n EXPRESSION_LEVELS tokens) x is in
    let last = sound_ended read.0.0 x read.0.1 read.2 in
    let found = sound_expr n EXPRESSION_LEVELS tokens read.0.1 read.0.0 read.1 in
    subst (λ e. IsExpr EXPRESSION_LEVELS e tokens) last.0 (subst (IsExpr EXPRESSION_LEVELS read.0.0) (sym (found.1 ∙ ap (λ r. found.0 ++ r) last.1 ∙ append-nil found.0)) found.2)

complete_whole : (n : ℕ) (tokens : List Token) (x : RawExpr) → IsExpr EXPRESSION_LEVELS x tokens → length tokens < n → whole_at n tokens ≡ Some x
unfolding whole_at
complete_whole n tokens x is below =
    let whole = append-nil tokens in
    let size = ap length whole in
    let read = complete_expr n n EXPRESSION_LEVELS tokens [] x (omega arith) is tt (omega arith) in
    ap (option_and_then (λ p. ended_at p.0 p.1)) (ap (expr_at n EXPRESSION_LEVELS) (sym whole) ∙ read)

joins_assign : (tokens rest : List Token) (replace : Bool) → assign_at tokens ≡ Some (replace, rest) → tokens ≡ assignment replace ∷ rest
joins_assign (Mark m.Assign ∷ tokens) rest replace is = let same = some_pair_parts true replace tokens rest is in ap (λ t. Mark m.Assign ∷ t) same.1 ∙ ap (λ b. assignment b ∷ rest) same.0
joins_assign (Mark m.Add ∷ tokens) rest replace is = let same = some_pair_parts false replace tokens rest is in ap (λ t. Mark m.Add ∷ t) same.1 ∙ ap (λ b. assignment b ∷ rest) same.0
joins_assign tokens rest replace is = absurd cc

joined_assign : (replace : Bool) (rest : List Token) → assign_at (assignment replace ∷ rest) ≡ Some (replace, rest)
joined_assign true rest = refl
joined_assign false rest = refl

-- a statement: from the colon on, with the variables and guards that stand before it
record IsStatement (vars : List RawVar) (guards : List RawGuard) (nest : RawNest) (tokens : List Token) : Type 0 where
  target : List Token
  body : List Token
  whole : tokens ≡ Mark m.Colon ∷ (target ++ (assignment nest.replace ∷ body))
  same_vars : nest.vars ≡ vars
  same_guards : nest.guards ≡ guards
  is_target : IsRef nest.target target
  is_body : IsExpr EXPRESSION_LEVELS nest.body body

sound_body : (n : ℕ) (vars : List RawVar) (guards : List RawGuard) (target : RawRef) (front after : List Token) (replace : Bool) (nest : RawNest) → IsRef target front → body_at n vars guards target (replace, after) ≡ Some nest → IsStatement vars guards nest (Mark m.Colon ∷ (front ++ assignment replace ∷ after))
sound_body n vars guards target front after replace nest are is =
    let read = mapped-some (as_nest vars guards target replace) (whole_at n after) nest is in
    subst (λ x. IsStatement vars guards x (Mark m.Colon ∷ (front ++ assignment replace ∷ after))) read.2
    (record { target = front; body = after; whole = refl; same_vars = refl; same_guards = refl; is_target = are; is_body = sound_whole n after read.0 read.1 })

sound_statement : (n : ℕ) (vars : List RawVar) (guards : List RawGuard) (tokens : List Token) (nest : RawNest) → statement_at n vars guards tokens ≡ Some nest → IsStatement vars guards nest tokens
unfolding statement_at
sound_statement n vars guards (Mark m.Colon ∷ tokens) nest is =
    let read = bound-some (assigned_at n vars guards) (ref_at tokens) nest is in
    let found = sound_ref tokens read.0.1 read.0.0 read.1 in
    let next = bound-some (body_at n vars guards read.0.0) (assign_at read.0.1) nest read.2 in
    let joint = joins_assign read.0.1 next.0.1 next.0.0 next.1 in
    subst (λ ts. IsStatement vars guards nest (Mark m.Colon ∷ ts)) (sym (found.1 ∙ ap (λ t. found.0 ++ t) joint)) (sound_body n vars guards read.0.0 found.0 next.0.1 next.0.0 nest found.2 next.2)
sound_statement n vars guards tokens nest is = absurd cc

pub sound_nest : (n : ℕ) (tokens : List Token) (nest : RawNest) → nest_at n tokens ≡ Some nest → IsNest nest tokens
unfolding nest_at
sound_nest n (Mark m.Doany ∷ tokens) nest is =
    let first = bound-some (guarded_at n) (vars_at n tokens) nest is in
    let vars = sound_vars n tokens first.0.1 first.0.0 first.1 in
    let second = bound-some (λ q. statement_at n first.0.0 q.0 q.1) (guards_at n first.0.1) nest first.2 in
    let guards = sound_guards n first.0.1 second.0.1 second.0.0 second.1 in
    let last = sound_statement n first.0.0 second.0.0 second.0.1 nest second.2 in
    record {
      vars = vars.1.0;
      guards = guards.0;
      target = last.target;
      body = last.body;
      whole = ap (λ t. Mark m.Doany ∷ t) (vars.1.1 ∙ ap (λ t. vars.1.0 ++ t) (guards.1 ∙ ap (λ t. guards.0 ++ t) last.whole));
      are_vars = subst (λ xs. AreVars xs vars.1.0) (sym last.same_vars) vars.1.2;
      some_vars = subst (λ xs. xs ≢ []) (sym last.same_vars) vars.0;
      are_guards = subst (λ gs. AreGuards gs guards.0) (sym last.same_guards) guards.2;
      is_target = last.is_target;
      is_body = last.is_body;
    }
sound_nest n tokens nest is = absurd cc

complete_statement : (n : ℕ) (nest : RawNest) (target body : List Token) → IsRef nest.target target → IsExpr EXPRESSION_LEVELS nest.body body → length body < n → statement_at n nest.vars nest.guards (Mark m.Colon ∷ (target ++ (assignment nest.replace ∷ body))) ≡ Some nest
unfolding statement_at
complete_statement n nest target body is_target is_body below =
    ap (option_and_then (assigned_at n nest.vars nest.guards)) (complete_ref target (assignment nest.replace ∷ body) nest.target is_target)
    ∙ ap (option_and_then (body_at n nest.vars nest.guards nest.target)) (joined_assign nest.replace body)
    ∙ ap (option_map (as_nest nest.vars nest.guards nest.target nest.replace)) (complete_whole n body nest.body is_body below)

pub complete_nest : (n : ℕ) (tokens : List Token) (nest : RawNest) → IsNest nest tokens → length tokens < n → nest_at n tokens ≡ Some nest
unfolding nest_at
complete_nest n tokens nest is below =
    let tail = is.target ++ (assignment nest.replace ∷ is.body) in
    let rest = is.guards ++ (Mark m.Colon ∷ tail) in
    let size = ap length is.whole in
    let one = length-append is.vars rest in
    let two = length-append is.guards (Mark m.Colon ∷ tail) in
    let three = length-append is.target (assignment nest.replace ∷ is.body) in
    let ends = after_vars is.guards tail nest.guards is.are_guards in
    ap (nest_at n) is.whole
    ∙ ap (option_and_then (guarded_at n)) (complete_vars n is.vars rest nest.vars is.some_vars is.are_vars ends.0 ends.1 (omega arith))
    ∙ ap (option_and_then (λ q. statement_at n nest.vars q.0 q.1)) (complete_guards n is.guards tail nest.guards is.are_guards (omega arith))
    ∙ complete_statement n nest is.target is.body is.is_target is.is_body (omega arith)
