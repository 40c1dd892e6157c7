use Rattle.std.proofs.Common.{◌≡◌, suc, ◌+◌, ◌<◌, ◌≤◌, true, sym, ap, subst, arith}
use Rattle.rank_scripts.specs.Nodes.{has_all}
use Rattle.turn_model.specs.Runs.{scripts, turns_of}
use Rattle.turn_node.specs.declared.progress.Progress.{Progress}
use Rattle.turn_node.specs.Positions.{passed_of, IsStage}
use Rattle.turn_node.specs.Progresses.{given_of}
use Rattle.turn_node.proofs.ProgressLemmas.{applied_goes}
use Rattle.turn_node.proofs.progress.Progress.applied.Goals as goal

pub begun-self-requires : goal.begun-self-requires
begun-self-requires g c =
    let n = c.args.self.now in
    let is = c.requires.0 in
    let below : c.args.turn < turns_of g.run = subst (IsStage g.run n.rank) c.requires.1 is.stage in
    let passed : passed_of g.run n.stage ≡ suc (suc c.args.turn) = ap (passed_of g.run) c.requires.1 in
    let P : Progress → Type 0 = λ k. has_all (scripts g.run) k.rank (given_of g.run k) 0 ≡ true in
    let more : c.args.turn + 1 ≤ turns_of g.run = omega arith in
    (c.drop_used.ensures.mail, (subst P (sym c.drop_used.ensures.same) (is.fit.past 0 (omega arith)), more))

pub returns : goal.returns
returns g c =
    applied_goes g.run c.args.self.now c.drop_used.new.self c.args.turn c.begun-self.result c.requires.0 c.requires.1 c.drop_used.ensures c.begun-self.ensures
