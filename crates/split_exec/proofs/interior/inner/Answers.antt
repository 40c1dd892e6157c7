use Rattle.std.proofs.Common.{◌≡◌, ◌∙◌, ◌+◌, ◌<◌, ◌%◌, ◌^◌, ℕ, length, take, get_or, sym, ap, arith}
use Rattle.std.specs.Prelude.{slice_index}
use Rattle.std.specs.List.{sum_by}
use Rattle.std.proofs.Math.Nat.{add-mod-mod, mod-eq_of_lt}
use Rattle.std.proofs.lemmas.List.{take_all}
use Rattle.std.proofs.lemmas.Option.{slice_get-get_or}
use Rattle.bern_base.proofs.SumLemmas.{sum_by-map, sum_by_agree-mod}
use Rattle.node_prog.specs.Visiting.{term_course}
use Rattle.pass_model.specs.Interior.{interior_points}
use Rattle.pass_model.specs.Local.{local_element}
use Rattle.pass_model.specs.Sums.{term_sum}
use Rattle.plan_courses.specs.PlanCourses.{origin}
use Rattle.term_model.specs.declared.plan.PlannedTerm.{PlannedTerm}
use Rattle.term_model.specs.declared.term.Term.{Term}
use Rattle.walks.specs.Cost.{whole_budget}
use Rattle.walks.specs.Courses.{walk}
use Rattle.split_exec.specs.Hits.{hits_add}
use Rattle.split_exec.specs.Settings.{Setting, scene_of, setting}
use Rattle.split_exec.proofs.MeaningLemmas.{hits_mean}
use Rattle.split_exec.proofs.RankLemmas.{dealt, extent_is, own_low}
use Rattle.split_exec.proofs.SumLemmas.{grow_alike, grow_both}
use Rattle.split_exec.proofs.ViewLemmas.{one_pass, sum_more}
use Rattle.split_exec.proofs.interior.inner.Goals as goal

pub add_term-requires-clause-can : goal.add_term-requires-clause-can
add_term-requires-clause-can g c =
    let s : Setting = setting g.P.Placement.triples g.P.Placement.ranks g.V.Access.tree g.V.Cells.grid c.args.job.now c.args.places.now c.args.nest.now c.args.stores.now in
    one_pass s c.args.rank c.args.planned.now c.terms.at c.at-term.result.now c.requires.can c.at-term.ensures

pub terms-preserved : goal.terms-preserved
terms-preserved g c =
    let s : Setting = setting g.P.Placement.triples g.P.Placement.ranks g.V.Access.tree g.V.Cells.grid c.args.job.now c.args.places.now c.args.nest.now c.args.stores.now in
    let p = c.at-term.result.now in
    let added : PlannedTerm → ℕ → ℕ = λ p k. hits_add s c.args.rank p.term (walk (term_course (scene_of s p) c.args.rank) origin) k in
    record {
      grows = grow_alike c.args.delta.now c.add_term.new.delta (λ k. sum_by (λ p. added p k) (take c.terms.at c.args.planned.now) + added p k) (λ k. sum_by (λ p. added p k) (take (c.terms.at + 1) c.args.planned.now))
          (λ k. sym (sum_more (λ p. added p k) c.args.planned.now c.terms.at p c.at-term.ensures))
          (grow_both c.args.delta.now c.terms.delta c.add_term.new.delta (λ k. sum_by (λ p. added p k) (take c.terms.at c.args.planned.now)) (added p) c.terms.invariant.grows c.add_term.ensures.grows);
      cost = omega (arith, c.terms.invariant.cost, c.add_term.ensures.cost, sum_more (λ p. whole_budget (term_course (scene_of s p) c.args.rank) origin) c.args.planned.now c.terms.at p c.at-term.ensures);
    }

pub returns-clause-sums : goal.returns-clause-sums
returns-clause-sums g c entries state show array named n own =
    let s : Setting = setting g.P.Placement.triples g.P.Placement.ranks g.V.Access.tree g.V.Cells.grid c.args.job.now c.args.places.now c.args.nest.now c.args.stores.now in
    let rank = c.args.rank in
    let planned = c.args.planned.now in
    let old = c.args.delta.now in
    let new = c.terms.delta in
    let (ranks, place, low) = dealt s.job g.P.Placement.triples g.P.Placement.ranks g.met.P.Placement.placed c.args.places.now rank c.requires.can.at s.nest.target.array array named in
    let long = extent_is s.job s.places s.ranks rank c.requires.can.at s.nest.target.array array named in
    let l = local_element s.places array rank n in
    let below : l < length old = let inside = own_low s.places array rank n place long own in omega (arith, inside, c.requires.sums array named) in
    let added : PlannedTerm → ℕ → ℕ = λ p k. hits_add s rank p.term (walk (term_course (scene_of s p) rank) origin) k in
    let means : Term → ℕ = λ t. term_sum s.job state s.nest n t (interior_points s.job entries s.places s.nest t rank) in
    let all : take c.terms.at planned ≡ planned = take_all c.terms.at planned (omega (arith, c.terms-test.false, c.len-at-end.ensures)) in
    let small : slice_index new l < 2 ^ 64 = c.small.ensures l 0 (omega (arith, below, c.terms.invariant.grows.count)) in
    sym (mod-eq_of_lt small)
    ∙ c.terms.invariant.grows.each l below
    ∙ ap (λ ps. (slice_index old l + sum_by (λ p. added p l) ps) % 2 ^ 64) all
    ∙ sym (add-mod-mod (slice_index old l) (sum_by (λ p. added p l) planned) (2 ^ 64))
    ∙ ap (λ m. (slice_index old l + m) % 2 ^ 64)
    (sum_by_agree-mod (2 ^ 64) (λ p. added p l) (λ p. means p.term) planned (λ k d under.
    let p = get_or planned k d in
    hits_mean s rank p (one_pass s rank planned k p c.requires.can (slice_get-get_or planned k d under)) entries state show ranks array named place long n own)
    ∙ ap (λ m. m % 2 ^ 64) (sym (sum_by-map means (λ (p : PlannedTerm). p.term) planned)))
