-- What follows from an answer that is no form.
use Rattle.std.proofs.Common.{◌≡◌, Option, Some, None, Result, Ok, Err, sym, subst}
use Rattle.std.specs.Result.{IsErrOf, IfOk}
use Rattle.job_text.specs.declared.stop.Stop.{Stop}
use Rattle.job_text.specs.declared.stop.Stop.TheVariants as stop
use Rattle.job_text.specs.Reading.{Fails, Gives}

no_form : {A : Type 0} (e : Stop) (read : Option A) → e ≡ stop.NoForm → Fails e read → read ≡ None
no_form stop.NoForm read is fails = fails
no_form stop.NoMemory read is fails = absurd cc

-- at the exit of a `?`
pub none_from : {T A : Type 0} (r : Result T Stop) (e : Stop) (read : Option A) → (y : Stop) × (r ≡ Err y) × (y ≡ e) → Fails e read → IsErrOf r stop.NoForm → read ≡ None
none_from r e read p fails of = no_form e read (let q = p.1 in let s = p.2 in cc) fails

-- the same, where what could not be read ends all
pub gives_err : {T X A : Type 0} (view : T → A) (r : Result T Stop) (e : Stop) (one : Option X) (all : Option A) → (y : Stop) × (r ≡ Err y) × (y ≡ e) → Fails e one → (one ≡ None → all ≡ None) → Gives view r all
gives_err view r e one all p fails ends = subst (λ t. Gives view t all) (sym p.1) (subst (λ y. Fails y all) (sym p.2) (fails_on e one all fails ends))
  where
    fails_on : {X A : Type 0} (e : Stop) (one : Option X) (all : Option A) → Fails e one → (one ≡ None → all ≡ None) → Fails e all
    fails_on stop.NoForm one all fails ends = ends fails
    fails_on stop.NoMemory one all fails ends = tt

-- what an answer gives is what was read
pub gives_ok : {T : Type 0} (r : Result T Stop) (read : Option T) (P : T → Type 0) → Gives (λ x. x) r read → ((x : T) → read ≡ Some x → P x) → IfOk r P
gives_ok (Ok x) read P gives then = then x gives
gives_ok (Err e) read P gives then = tt

-- no form is answered only where none was read
pub gives_none : {T : Type 0} (r : Result T Stop) (read : Option T) → Gives (λ x. x) r read → IsErrOf r stop.NoForm → read ≡ None
gives_none (Ok x) read gives of = absurd cc
gives_none (Err stop.NoForm) read gives of = gives
gives_none (Err stop.NoMemory) read gives of = absurd cc
