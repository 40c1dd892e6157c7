use Rattle.std.proofs.Common.{◌<◌, ◌∙◌, length, refl, subst, arith}
use Rattle.std.proofs.lemmas.List.{take_all}
use Rattle.pass_model.specs.Interior.{boundary_points}
use Rattle.record_model.specs.Records.{AreRecords}
use Rattle.term_model.specs.declared.plan.PlannedTerm.{PlannedTerm}
use Rattle.split_exec.specs.Recorded.{records_add}
use Rattle.split_exec.specs.Settings.{Setting, setting}
use Rattle.split_exec.proofs.RankLemmas.{dealt, spot_low}
use Rattle.split_exec.proofs.RecallLemmas.{AreLow, IsDealt, Recalls, low_sums, recalls_first, recalls_last, recalls_next, term_adds, term_targets, term_there}
use Rattle.split_exec.proofs.RecordLemmas.{from, zip_length}
use Rattle.split_exec.proofs.ViewLemmas.{sum_more}
use Rattle.split_exec.proofs.boundary.outer.Goals as goal

pub terms-init : goal.terms-init
terms-init g c =
    let s : Setting = setting g.P.Placement.triples g.P.Placement.ranks g.V.Access.tree g.V.Cells.grid c.args.job.now c.args.places.now c.args.nest.now c.args.stores.now in
    record { sums = recalls_first s c.args.rank c.args.inbox.now.sets c.args.delta.now; count = refl; cost = omega arith }

pub at-records-requires : goal.at-records-requires
at-records-requires g c =
    let s : Setting = setting g.P.Placement.triples g.P.Placement.ranks g.V.Access.tree g.V.Cells.grid c.args.job.now c.args.places.now c.args.nest.now c.args.stores.now in
    let can = c.requires.can in
    let long = zip_length (λ (p : PlannedTerm) rs. AreRecords s.job s.places c.args.rank s.nest can.sets p.term can.seen (boundary_points s.job can.pass.entries s.places s.nest p.term c.args.rank) rs)
    c.args.planned.now c.args.recorded.now can.records in
    omega (arith, long, c.terms-test.true, c.len-at-end.ensures)

pub add_records-requires-clause-can : goal.add_records-requires-clause-can
add_records-requires-clause-can g c =
    let s : Setting = setting g.P.Placement.triples g.P.Placement.ranks g.V.Access.tree g.V.Cells.grid c.args.job.now c.args.places.now c.args.nest.now c.args.stores.now in
    term_there s c.args.rank c.args.planned.now c.args.recorded.now c.args.inbox.now.sets c.requires.can c.terms.at c.at.result.now c.at-records.result.now c.at.ensures c.at-records.ensures

pub add_records-requires-clause-targets : goal.add_records-requires-clause-targets
add_records-requires-clause-targets g c =
    let s : Setting = setting g.P.Placement.triples g.P.Placement.ranks g.V.Access.tree g.V.Cells.grid c.args.job.now c.args.places.now c.args.nest.now c.args.stores.now in
    term_targets s c.args.rank c.args.planned.now c.args.recorded.now c.args.inbox.now.sets c.requires.can c.terms.at c.at.result.now c.at-records.result.now c.at.ensures c.at-records.ensures
    (λ n. n < length c.terms.delta)
    (λ x named own.
    let low = spot_low s.job g.P.Placement.triples g.P.Placement.ranks g.met.P.Placement.placed c.args.places.now c.args.rank c.requires.can.pass.at s.nest.target x named own in
    omega (arith, low, c.requires.sums named.array named.named, c.terms.invariant.count))

pub terms-preserved : goal.terms-preserved
terms-preserved g c =
    let s : Setting = setting g.P.Placement.triples g.P.Placement.ranks g.V.Access.tree g.V.Cells.grid c.args.job.now c.args.places.now c.args.nest.now c.args.stores.now in
    let rank = c.args.rank in
    let inbox = c.args.inbox.now.sets in
    let planned = c.args.planned.now in
    let at = c.terms.at in
    let p = c.at.result.now in
    let records = c.at-records.result.now in
    let can = c.requires.can in
    let dealt_at : IsDealt s rank = λ array named. dealt s.job g.P.Placement.triples g.P.Placement.ranks g.met.P.Placement.placed c.args.places.now rank can.pass.at s.nest.target.array array named in
    let low : AreLow s rank (length c.terms.delta) = low_sums s rank c.terms.delta can.pass.at dealt_at (λ array named. c.terms.invariant.count ∙ c.requires.sums array named) in
    record {
      sums = recalls_next s rank inbox c.args.delta.now planned at p c.terms.delta c.add_records.new.delta (records_add (from s inbox) p.term records) c.at.ensures c.terms.invariant.sums c.add_records.ensures.grows
          (term_adds s rank planned c.args.recorded.now inbox can at p records c.at.ensures c.at-records.ensures dealt_at) low;
      count = c.add_records.ensures.grows.count ∙ c.terms.invariant.count;
      cost = omega (arith, c.add_records.ensures.cost, c.terms.invariant.cost, sum_more length c.args.recorded.now at records c.at-records.ensures);
    }

pub returns-clause-sums : goal.returns-clause-sums
returns-clause-sums g c =
    let s : Setting = setting g.P.Placement.triples g.P.Placement.ranks g.V.Access.tree g.V.Cells.grid c.args.job.now c.args.places.now c.args.nest.now c.args.stores.now in
    let rank = c.args.rank in
    let inbox = c.args.inbox.now.sets in
    let planned = c.args.planned.now in
    let can = c.requires.can in
    let dealt_at : IsDealt s rank = λ array named. dealt s.job g.P.Placement.triples g.P.Placement.ranks g.met.P.Placement.placed c.args.places.now rank can.pass.at s.nest.target.array array named in
    let low : AreLow s rank (length c.terms.delta) = low_sums s rank c.terms.delta can.pass.at dealt_at (λ array named. c.terms.invariant.count ∙ c.requires.sums array named) in
    recalls_last s rank inbox c.args.delta.now planned c.terms.delta
    (subst (λ ps. Recalls s rank ps inbox c.args.delta.now c.terms.delta) (take_all c.terms.at planned (omega (arith, c.terms-test.false, c.len-at-end.ensures))) c.terms.invariant.sums)
    low c.small.ensures
