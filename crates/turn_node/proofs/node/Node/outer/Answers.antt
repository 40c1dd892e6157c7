use Rattle.std.proofs.Common.{◌≡◌, sym, ap, ◌∙◌, subst, arith}
use Rattle.turn_node.specs.declared.stage.Stage.{Stage}
use Rattle.turn_node.specs.Parts.{At, next}
use Rattle.turn_node.specs.Positions.{phase_of, turn_of}
use Rattle.turn_node.specs.Progresses.{at}
use Rattle.turn_node.proofs.ProgressLemmas.{before, may_apply}
use Rattle.turn_node.proofs.node.Node.outer.Goals as goal

pub outer-requires : goal.outer-requires
outer-requires g c =
    let n = c.args.self.now in
    let is = c.requires.1.1.0 in
    let x = before g.run n.progress c.args.turn in
    let part = subst (λ (s : Stage). g.P.Part.stands n.part (record { run = g.run; rank = n.progress.rank; turn = turn_of g.run s }) (phase_of s)) c.requires.1.1.1 is.part in
    let may = may_apply g.run n.progress c.args.turn c.nest-nest.result c.requires.1.1.1 is.progress c.nest-nest.ensures in
    (x, (part, may))

pub returns-in-Ok-clause-ok : goal.returns-in-Ok-clause-ok
returns-in-Ok-clause-ok g c =
    let n = c.args.self.now in
    let is = c.requires.1.1.0 in
    let x = before g.run n.progress c.args.turn in
    let part = subst (λ (s : Stage). g.P.Part.stands n.part (record { run = g.run; rank = n.progress.rank; turn = turn_of g.run s }) (phase_of s)) c.requires.1.1.1 is.part in
    let may = may_apply g.run n.progress c.args.turn c.nest-nest.result c.requires.1.1.1 is.progress c.nest-nest.ensures in
    let goes = c.applied.ensures in
    let new = c.applied.new.self in
    let stands = c.in-Ok.ensures.ok x part may in
    let at_is : at g.run new ≡ next x = ap (λ k. record { run = g.run; rank = k; turn = turn_of g.run new.stage }) goes.rank ∙ ap (λ k. record { run = g.run; rank = n.progress.rank; turn = k }) goes.turn_is in
    record {
      node = record {
        progress = goes.progress;
        part = subst (λ (a : At). g.P.Part.stands c.outer.new.self a (phase_of new.stage)) (sym at_is) (subst (g.P.Part.stands c.outer.new.self (next x)) (sym goes.phase_is) stands);
      };
      rank = goes.rank;
      moved = goes.moved;
    }

pub returns-in-Ok-clause-cost : goal.returns-in-Ok-clause-cost
returns-in-Ok-clause-cost g c =
    let n = c.args.self.now in
    let is = c.requires.1.1.0 in
    let x = before g.run n.progress c.args.turn in
    let part = subst (λ (s : Stage). g.P.Part.stands n.part (record { run = g.run; rank = n.progress.rank; turn = turn_of g.run s }) (phase_of s)) c.requires.1.1.1 is.part in
    let may = may_apply g.run n.progress c.args.turn c.nest-nest.result c.requires.1.1.1 is.progress c.nest-nest.ensures in
    let spent = c.in-Ok.ensures.cost x part may in
    let left = c.applied.ensures.cost_is in
    omega arith
