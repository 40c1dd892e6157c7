use Rattle.std.proofs.Common.{Err, suc, sym, ap, ◌∙◌}
use Rattle.std.proofs.lemmas.Bool.{false≢true}
use Rattle.rank_scripts.specs.Worlds.{left}
use Rattle.rank_scripts.proofs.CountLemmas.{happens_count}
use Rattle.rank_scripts.proofs.RoundLemmas.{IsClosed-turns}
use Rattle.turn_model.specs.Runs.{scripts, schedule, turns_of}
use Rattle.turn_model.specs.Schedules.{request, values_letter}
use Rattle.turn_world.specs.Worlds.{world_in, event_of}
use Rattle.turn_world.proofs.EventLemmas.{some_event, chosen_enabled}
use Rattle.turn_world.proofs.choices.next_event.Goals as goal

pub chosen-event-requires : goal.chosen-event-requires
chosen-event-requires g c = some_event g.run (world_in g.run c.args.world.now.nodes c.args.world.now.boxes) c.in-Ok.events c.in-Ok.ensures c.requires.1.1.0.fit c.requires.1.1.1

pub returns-in-Ok-step-clause-left : goal.returns-in-Ok-step-clause-left
returns-in-Ok-step-clause-left g c =
    let w = world_in g.run c.args.world.now.nodes c.args.world.now.boxes in
    let enabled = chosen_enabled g.run w c.in-Ok.events c.chosen-event.result c.in-Ok.ensures c.chosen-event.ensures in
    ap (λ v. suc (left (scripts g.run) v)) c.in-Ok-step.ensures.ok.same ∙
    happens_count (scripts g.run) w (event_of c.chosen-event.result) (IsClosed-turns g.run.ranks (turns_of g.run) (request (schedule g.run)) (values_letter (schedule g.run))) c.requires.1.1.0.fit enabled

pub unreachable-requires : goal.unreachable-requires
unreachable-requires g c =
    let w = world_in g.run c.args.world.now.nodes c.args.world.now.boxes in
    let enabled = chosen_enabled g.run w c.in-Ok.events c.chosen-event.result c.in-Ok.ensures c.chosen-event.ensures in
    false≢true (sym (c.step.ensures.refused.0 (c.in-Err-NotEnabled.is ∙ ap Err c.in-Err-NotEnabled.field-0-is)) ∙ enabled)
