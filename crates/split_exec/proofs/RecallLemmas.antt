-- The pass over the boundary points, a term at a time.
use Rattle.std.proofs.Common.{◌≡◌, ◌∙◌, ℕ, zero, suc, ◌+◌, ◌%◌, ◌^◌, ◌<◌, true, List, [], map, length, take, Some, ℤ, refl, sym, ap, subst, arith}
use Rattle.std.specs.Prelude.{replicate, slice_get, slice_index}
use Rattle.std.specs.List.{All, sum_by}
use Rattle.std.proofs.Math.Nat.{add-mod-mod, add-zero, add_assoc, mod-add-mod, mod-eq_of_lt, zero-add}
use Rattle.std.proofs.lemmas.Bool.{eq-eqb}
use Rattle.bern_base.proofs.SumLemmas.{sum_by-map}
use Rattle.bern_base.specs.Ring.{ring_add}
use Rattle.bern_base.specs.declared.job.ArrayDecl.{ArrayDecl}
use Rattle.job_model.specs.State.{State}
use Rattle.node_prog.specs.declared.record.Recorded.{Recorded}
use Rattle.pass_model.specs.Interior.{boundary_points, is_own}
use Rattle.pass_model.specs.Local.{IsOwn, local_element, triples_in}
use Rattle.pass_model.specs.Sums.{boundary_sum, interior_sum, term_sum}
use Rattle.placement.specs.Placement.{IsPlacement}
use Rattle.record_model.specs.Records.{AreRecords}
use Rattle.record_model.proofs.OutlivingLemmas.{records-outlive_values}
use Rattle.term_model.specs.declared.plan.PlannedTerm.{PlannedTerm}
use Rattle.term_model.specs.declared.term.Term.{Term}
use Rattle.term_model.specs.Activity.{Entries}
use Rattle.term_model.specs.Answers.{home_of}
use Rattle.split_exec.specs.declared.inbox.InSet.{InSet}
use Rattle.split_exec.specs.Hits.{Grow, IsNamed, spot}
use Rattle.split_exec.specs.Passing.{HasSums}
use Rattle.split_exec.specs.Recalling.{AddsBoundary, CanRecall, HoldsState, PassesLeaveTheBody}
use Rattle.split_exec.specs.Recorded.{CanRead, records_add}
use Rattle.split_exec.specs.Settings.{IsAtRank, Setting, ShowState}
use Rattle.split_exec.proofs.PassesLemmas.{passes_sum}
use Rattle.split_exec.proofs.RankLemmas.{extent_is, own_low}
use Rattle.split_exec.proofs.RecordLemmas.{add_alike, from, records_mean, records_there, targets_there, zip_get}
use Rattle.split_exec.proofs.SoundLemmas.{nest_is, target_named}
use Rattle.split_exec.proofs.ViewLemmas.{one_pass, sum_more}

-- what the boundary points of a term add to an element
abbrev pub means : Setting → ℕ → Entries → State → ℕ → Term → ℕ
means s rank entries state n t = term_sum s.job state s.nest n t (boundary_points s.job entries s.places s.nest t rank)

-- so much was added for these terms, modulo 2^64
abbrev pub Recalls : Setting → ℕ → List PlannedTerm → List InSet → List ℕ → List ℕ → Type 0
Recalls s rank planned inbox old new =
    (entries : Entries) (state : State) → ShowState s entries state rank → HoldsState state inbox →
    (array : ArrayDecl) → slice_get s.job.arrays s.nest.target.array ≡ Some array → (n : ℕ) → IsOwn s.places array rank n →
    slice_index new (local_element s.places array rank n) % 2 ^ 64
    ≡ (slice_index old (local_element s.places array rank n) + sum_by (λ p. means s rank entries state n p.term) planned) % 2 ^ 64

-- one term has so much
abbrev pub TermAdds : Setting → ℕ → PlannedTerm → List InSet → (ℕ → ℕ) → Type 0
TermAdds s rank p inbox added =
    (entries : Entries) (state : State) → ShowState s entries state rank → HoldsState state inbox →
    (array : ArrayDecl) → slice_get s.job.arrays s.nest.target.array ≡ Some array → (n : ℕ) → IsOwn s.places array rank n →
    added (local_element s.places array rank n) % 2 ^ 64 ≡ means s rank entries state n p.term % 2 ^ 64

-- the numbers of own elements are below the count of the sums
abbrev pub AreLow : Setting → ℕ → ℕ → Type 0
AreLow s rank count = (array : ArrayDecl) → slice_get s.job.arrays s.nest.target.array ≡ Some array → (n : ℕ) → IsOwn s.places array rank n → local_element s.places array rank n < count

module _ (s : Setting) (rank : ℕ) (inbox : List InSet) (old : List ℕ) where
  pub recalls_first : Recalls s rank [] inbox old old
  recalls_first entries state show holds array named n own = ap (λ m. m % 2 ^ 64) (sym (add-zero (slice_index old (local_element s.places array rank n))))

  pub recalls_next : (planned : List PlannedTerm) (k : ℕ) (p : PlannedTerm) (now next : List ℕ) (added : ℕ → ℕ) → slice_get planned k ≡ Some p → Recalls s rank (take k planned) inbox old now → Grow now next added →
      TermAdds s rank p inbox added → AreLow s rank (length now) → Recalls s rank (take (k + 1) planned) inbox old next
  recalls_next planned k p now next added some before grow mean low entries state show holds array named n own =
      let l = local_element s.places array rank n in
      let all : PlannedTerm → ℕ = λ p. means s rank entries state n p.term in
      grow.each l (low array named n own)
      ∙ add_alike (2 ^ 64) (slice_index now l) (added l) (slice_index old l + sum_by all (take k planned)) (all p) (before entries state show holds array named n own) (mean entries state show holds array named n own)
      ∙ ap (λ m. m % 2 ^ 64) (add_assoc (slice_index old l) (sum_by all (take k planned)) (all p) ∙ ap (λ m. slice_index old l + m) (sym (sum_more all planned k p some)))

  pub recalls_last : (planned : List PlannedTerm) (new : List ℕ) → Recalls s rank planned inbox old new → AreLow s rank (length new) → All (λ v. v < 2 ^ 64) new → AddsBoundary s rank planned inbox old new
  recalls_last planned new all low small entries state show holds array named n own =
      let l = local_element s.places array rank n in
      let each : Term → ℕ = means s rank entries state n in
      sym (mod-eq_of_lt (small l 0 (low array named n own)))
      ∙ all entries state show holds array named n own
      ∙ sym (add-mod-mod (slice_index old l) (sum_by (λ (p : PlannedTerm). each p.term) planned) (2 ^ 64))
      ∙ ap (λ m. (slice_index old l + m % 2 ^ 64) % 2 ^ 64) (sym (sum_by-map each (λ (p : PlannedTerm). p.term) planned))

-- ---- one of the terms

-- the target's array lies on a placement
abbrev pub IsDealt : Setting → ℕ → Type 0
IsDealt s rank = (array : ArrayDecl) → slice_get s.job.arrays s.nest.target.array ≡ Some array → (ranks : ℕ) × IsPlacement ranks (triples_in s.places array) × (rank < ranks)

pub low_sums : (s : Setting) (rank : ℕ) (sums : List ℕ) → IsAtRank s.job s.places s.ranks rank → IsDealt s rank → HasSums s rank (length sums) → AreLow s rank (length sums)
low_sums s rank sums at dealt has array named n own =
    let (ranks, place, among) = dealt array named in
    let low = own_low s.places array rank n place (extent_is s.job s.places s.ranks rank at s.nest.target.array array named) own in
    omega (arith, low, has array named)

-- the records of one of the terms
pub records_of : (s : Setting) (rank : ℕ) (planned : List PlannedTerm) (recorded : List (List Recorded)) (inbox : List InSet) (can : CanRecall s rank planned recorded inbox) (k : ℕ) (p : PlannedTerm) (records : List Recorded) →
    slice_get planned k ≡ Some p → slice_get recorded k ≡ Some records →
    AreRecords s.job s.places rank s.nest can.sets p.term s.trees (boundary_points s.job can.pass.entries s.places s.nest p.term rank) records
records_of s rank planned recorded inbox can k p records some there =
    let (found, is, are) =
    zip_get (λ (p : PlannedTerm) rs. AreRecords s.job s.places rank s.nest can.sets p.term s.trees (boundary_points s.job can.pass.entries s.places s.nest p.term rank) rs) planned recorded
    (records-outlive_values s.job can.pass.entries s.places rank s.nest can.sets can.seen s.trees planned recorded can.same can.records) k p some in
    let same : found ≡ records = (let both : Some found ≡ Some records = sym is ∙ there in cc) in
    subst (AreRecords s.job s.places rank s.nest can.sets p.term s.trees (boundary_points s.job can.pass.entries s.places s.nest p.term rank)) same are

module _ (s : Setting) (rank : ℕ) (planned : List PlannedTerm) (recorded : List (List Recorded)) (inbox : List InSet) (can : CanRecall s rank planned recorded inbox) (k : ℕ) (p : PlannedTerm) (records : List Recorded)
    (some : slice_get planned k ≡ Some p) (there : slice_get recorded k ≡ Some records) where
  pub term_there : All (CanRead (from s inbox) p.term) records
  term_there =
      records_there s rank p (one_pass s rank planned k p can.pass some) can.sets inbox can.filled can.pass.entries can.pass.parts records (records_of s rank planned recorded inbox can k p records some there)

  -- a point at home at the rank writes an own element
  pub term_targets : (Q : ℕ → Type 0) → ((x : List ℤ) → IsNamed s.job s.nest.target x → is_own s.job s.places rank x s.nest.target ≡ true → Q (spot s.job s.places rank x s.nest.target)) → All (λ (r : Recorded). Q r.target) records
  term_targets Q each =
      let one = one_pass s rank planned k p can.pass some in
      targets_there s rank p one can.sets inbox can.filled can.pass.entries can.pass.parts records (records_of s rank planned recorded inbox can k p records some there) Q
      (λ x box home. each x (target_named s.job s.nest x (nest_is s rank p one) box) (eq-eqb (home_of s.job s.places s.nest x) rank home))

  pub term_adds : IsDealt s rank → TermAdds s rank p inbox (records_add (from s inbox) p.term records)
  term_adds dealt entries state show holds array named n own =
      let (ranks, place, among) = dealt array named in
      records_mean s rank p (one_pass s rank planned k p can.pass some) can.sets inbox can.filled can.pass.entries can.pass.parts records (records_of s rank planned recorded inbox can k p records some there)
      entries state show holds ranks array named place (extent_is s.job s.places s.ranks rank can.pass.at s.nest.target.array array named) n own

-- ---- both passes

-- an element of a list of zeros
zero_at : (count k : ℕ) → slice_index (replicate count 0) k ≡ 0
zero_at zero k = refl
zero_at (suc count) zero = refl
zero_at (suc count) (suc k) = zero_at count k

pub passes_leave_the_body : PassesLeaveTheBody
passes_leave_the_body s rank planned inbox count between after entries state both show holds zeros array named n own =
    let l = local_element s.places array rank n in
    let inner : List Term → ℕ = λ ts. interior_sum s.job entries s.places state s.nest rank n ts in
    let outer : List Term → ℕ = λ ts. boundary_sum s.job entries s.places state s.nest rank n ts in
    let ts = map (λ (p : PlannedTerm). p.term) planned in
    let first : slice_index between l ≡ inner ts % 2 ^ 64 =
    both.inner entries state show array named n own ∙ ap (λ m. (m + inner ts) % 2 ^ 64) (zero_at count l) ∙ ap (λ m. m % 2 ^ 64) (zero-add (inner ts)) in
    both.outer entries state show holds array named n own
    ∙ ap (λ m. ring_add m (outer ts)) first
    ∙ mod-add-mod (inner ts) (2 ^ 64) (outer ts)
    ∙ ap (λ us. ring_add (inner us) (outer us)) both.all
    ∙ passes_sum s.job entries s.places state s.nest rank n zeros
