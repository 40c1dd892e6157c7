-- The turns of a job, one after the other.
use Rattle.std.proofs.Math.Seq.{take-length}
use Rattle.std.proofs.Common.{◌≡◌, ℕ, zero, suc, ◌+◌, ◌<◌, ◌≤◌, List, [], ◌∷◌, Some, length, take, get_or, slice_get, refl, sym, ap, ◌∙◌, subst, arith}
use Rattle.std.specs.List.{AllZip, Contains, fold}
use Rattle.std.proofs.lemmas.List.{take_more}
use Rattle.std.proofs.lemmas.List.Sums.{fold-append}
use Rattle.std.proofs.lemmas.Option.{slice_get_read}
use Rattle.bern_base.specs.declared.job.Checked.{Checked}
use Rattle.bern_base.specs.declared.job.Nest.{Nest}
use Rattle.formats.specs.declared.any_store.AnyStore.{AnyStore}
use Rattle.job_model.specs.Nests.{after_found, after_nest, after_turn, end_state}
use Rattle.job_model.specs.State.{State}
use Rattle.placement.specs.declared.any_place.AnyPlace.{AnyPlace}
use Rattle.whole_turns.proofs.PlaceLemmas.{all_at}
use Rattle.split_exec.proofs.PassesLemmas.{passes_sum}
use Rattle.term_model.specs.declared.plan.PlannedTerm.{PlannedTerm}
use Rattle.term_model.specs.declared.plan.Plans.{Plans}
use Rattle.term_model.specs.Activity.{Entries}
use Rattle.term_model.specs.Queries.{ArePlanned}
use Rattle.whole_turns.specs.Turns.{CanTurn, IsHeld, IsPlannedNest}
use Rattle.whole_turns.proofs.TurnLemmas.{turns-are_held, turns-can-be_made}
use Rattle.whole_runs.specs.Engine.{AreHeld, ArePlannedNests, IsTurnedTo}
use Rattle.whole_runs.proofs.StoreLemmas.{zip_long}

-- the nest of a turn
pub turn_below : (job : Checked) (items : List ℕ) (i number : ℕ) (plans : Plans) → ArePlannedNests job plans → items ≡ job.turns → i < length items → number ≡ get_or items i number → number < length job.nests
turn_below job items i number plans are same low is =
    all_at (λ k. k < length job.nests) job.turns i number are.turns (subst (λ xs. slice_get xs i ≡ Some number) same (slice_get_read items (length items) i number refl low is))

zip_at : {A B : Type 0} (P : A → B → Type 0) (xs : List A) (ys : List B) (k : ℕ) (x : A) (y : B) → AllZip P xs ys → slice_get xs k ≡ Some x → slice_get ys k ≡ Some y → P x y
zip_at P [] ys k x y zip at there = absurd cc
zip_at P (v ∷ xs) [] k x y zip at there = absurd zip
zip_at P (v ∷ xs) (w ∷ ys) zero x y zip at there = let first : v ≡ x = cc in let second : w ≡ y = cc in subst (P x) second (subst (λ z. P z w) first zip.0)
zip_at P (v ∷ xs) (w ∷ ys) (suc k) x y zip at there = zip_at P xs ys k x y zip.1 at there

contains_at : {X : Type 0} (xs : List X) (k : ℕ) (x : X) → slice_get xs k ≡ Some x → Contains xs x
contains_at [] k x at = absurd cc
contains_at (y ∷ xs) zero x at = (0, omega arith, let same : y ≡ x = cc in same)
contains_at (y ∷ xs) (suc k) x at = let rest = contains_at xs k x at in (suc rest.0, omega (arith, rest.1), rest.2)

pub planned_nest : (job : Checked) (plans : Plans) (k : ℕ) (nest : Nest) (planned : List PlannedTerm) → ArePlannedNests job plans → slice_get job.nests k ≡ Some nest → slice_get plans.nests k ≡ Some planned → IsPlannedNest job nest planned
planned_nest job plans k nest planned are at there = record {
  nest_is = contains_at job.nests k nest at;
  some = all_at (λ n. 0 < length n.vars) job.nests k nest are.variables at;
  plans = zip_at (ArePlanned job) job.nests plans.nests k nest planned are.plans_are at there;
}

pub can_turn : (job : Checked) (places : List AnyPlace) (stores : List AnyStore) (nest : Nest) (planned : List PlannedTerm) → AreHeld job places stores → IsPlannedNest job nest planned → CanTurn job places nest planned stores
can_turn job places stores nest planned held p = turns-can-be_made job held.entries held.state places stores nest planned held.held p

-- the stores after so many turns, from any state that the first stores hold
abbrev pub AreAfter : Checked → List AnyPlace → List AnyStore → List ℕ → List AnyStore → Type 0
AreAfter job places first turns now = (entries : Entries) (state : State) → IsHeld job entries state places first → IsHeld job entries (fold (after_turn job) state turns) places now

pub still_held : (job : Checked) (places : List AnyPlace) (first now : List AnyStore) (turns : List ℕ) → AreHeld job places first → AreAfter job places first turns now → AreHeld job places now
still_held job places first now turns held after = record { entries = held.entries; state = fold (after_turn job) held.state turns; held = after held.entries held.state held.held }

pub turn_more : (job : Checked) (places : List AnyPlace) (first now next : List AnyStore) (items : List ℕ) (i number : ℕ) (nest : Nest) (planned : List PlannedTerm) → i < length items → number ≡ get_or items i number → slice_get job.nests number ≡ Some nest → IsPlannedNest job nest planned →
    AreAfter job places first (take i items) now → IsTurnedTo job places nest planned now next → AreAfter job places first (take (i + 1) items) next
turn_more job places first now next items i number nest planned low is at p so_far turned = λ entries state held.
    let before : State = fold (after_turn job) state (take i items) in
    let done : IsHeld job entries (after_nest job.arrays before nest) places next =
    subst (IsHeld job entries (after_nest job.arrays before nest) places) (sym turned.after_is)
    (turns-are_held passes_sum job entries before places now nest planned turned.count turned.sums turned.old turned.new (so_far entries state held) p turned.turned) in
    let all : fold (after_turn job) state (take (i + 1) items) ≡ after_nest job.arrays before nest =
    ap (fold (after_turn job) state) (take_more items i number low) ∙ fold-append (after_turn job) state (take i items) (get_or items i number ∷ []) ∙ ap (after_turn job before) (sym is) ∙ ap (after_found job.arrays before) at in
    subst (λ s. IsHeld job entries s places next) (sym all) done

pub plan_below : (job : Checked) (plans : Plans) (k : ℕ) → ArePlannedNests job plans → k < length job.nests → k < length plans.nests
plan_below job plans k are low = omega (arith, low, zip_long (ArePlanned job) job.nests plans.nests are.plans_are)

-- after the last turn
pub all_turns : (job : Checked) (places : List AnyPlace) (first now : List AnyStore) (items : List ℕ) (i : ℕ) → items ≡ job.turns → i ≤ length items → length items ≤ i → AreAfter job places first (take i items) now →
    (entries : Entries) (state : State) → IsHeld job entries state places first → IsHeld job entries (end_state job state) places now
all_turns job places first now items i same most least after entries state held =
    let end : i ≡ length items = omega arith in
    subst (λ turns. IsHeld job entries (fold (after_turn job) state turns) places now) (ap (λ n. take n items) end ∙ take-length items ∙ same) (after entries state held)
