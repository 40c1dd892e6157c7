use Rattle.std.proofs.Common.{◌+◌, ◌<◌, length, take, sym, subst, arith}
use Rattle.node_prog.specs.declared.record.Recorded.{Recorded}
use Rattle.split_exec.specs.Recorded.{CanRead, Source, record_adds, records_add, source}
use Rattle.split_exec.proofs.RankLemmas.{all_at}
use Rattle.split_exec.proofs.SumLemmas.{grow_alike, grow_both}
use Rattle.split_exec.proofs.ViewLemmas.{sum_more}
use Rattle.split_exec.proofs.boundary.add_records.Goals as goal

pub add_record-requires-clause-can : goal.add_record-requires-clause-can
add_record-requires-clause-can g c =
    let f : Source = source g.V.Access.tree g.V.Cells.grid c.args.stores.now c.args.inbox.now.sets in
    all_at (CanRead f c.args.planned.now.term) c.args.records.now c.records.at c.at.result.now c.requires.can c.at.ensures

pub add_record-requires-clause-target : goal.add_record-requires-clause-target
add_record-requires-clause-target g c =
    subst (λ n. c.at.result.now.target < n) (sym c.records.invariant.grows.count)
    (all_at (λ (r : Recorded). r.target < length c.args.delta.now) c.args.records.now c.records.at c.at.result.now c.requires.targets c.at.ensures)

pub records-preserved : goal.records-preserved
records-preserved g c =
    let f : Source = source g.V.Access.tree g.V.Cells.grid c.args.stores.now c.args.inbox.now.sets in
    let t = c.args.planned.now.term in
    let records = c.args.records.now in
    let at = c.records.at in
    let r = c.at.result.now in
    record {
      grows = grow_alike c.args.delta.now c.add_record.new.delta (λ k. records_add f t (take at records) k + record_adds f t k r) (records_add f t (take (at + 1) records))
          (λ k. sym (sum_more (record_adds f t k) records at r c.at.ensures))
          (grow_both c.args.delta.now c.records.delta c.add_record.new.delta (records_add f t (take at records)) (λ k. record_adds f t k r) c.records.invariant.grows c.add_record.ensures);
      cost = omega (arith, c.tick.ensures, c.records.invariant.cost);
    }
