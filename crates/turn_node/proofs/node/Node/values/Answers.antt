use Rattle.std.proofs.Common.{length, ap, subst, arith}
use Rattle.turn_node.specs.declared.stage.Stage.{Stage}
use Rattle.turn_node.specs.Positions.{phase_of, turn_of, IsStage, SendsTo}
use Rattle.turn_node.proofs.ProgressLemmas.{before, may_send, sends}
use Rattle.turn_node.proofs.node.Node.values.Goals as goal

pub nest-nest-requires : goal.nest-nest-requires
nest-nest-requires g c =
    let n = c.args.self.now in
    let is = c.requires.1.0.progress in
    let to : SendsTo g.run n.progress.rank c.args.turn c.args.to = subst (IsStage g.run n.progress.rank) c.requires.1.1 is.stage in
    let turns = to.turns in
    let long = ap length is.mail.turns_are in
    omega arith

pub values-requires : goal.values-requires
values-requires g c =
    let n = c.args.self.now in
    let is = c.requires.1.0 in
    let part = subst (λ (s : Stage). g.P.Part.stands n.part (record { run = g.run; rank = n.progress.rank; turn = turn_of g.run s }) (phase_of s)) c.requires.1.1 is.part in
    (before g.run n.progress c.args.turn, (part, may_send g.run n.progress c.args.turn c.args.to c.nest-nest.result c.at-asked.result.now c.requires.1.1 is.progress c.nest-nest.ensures c.at-asked.ensures))

pub returns : goal.returns
returns g c =
    let n = c.args.self.now in
    let is = c.requires.1.0 in
    let part = subst (λ (s : Stage). g.P.Part.stands n.part (record { run = g.run; rank = n.progress.rank; turn = turn_of g.run s }) (phase_of s)) c.requires.1.1 is.part in
    sends g.run n.progress c.args.turn c.args.to c.nest-nest.result c.at-asked.result.now c.in_ok-values.values c.requires.1.1 is.progress c.nest-nest.ensures c.at-asked.ensures
    (c.in_ok-values.ensures (before g.run n.progress c.args.turn) part (may_send g.run n.progress c.args.turn c.args.to c.nest-nest.result c.at-asked.result.now c.requires.1.1 is.progress c.nest-nest.ensures c.at-asked.ensures))
