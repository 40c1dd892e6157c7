use Rattle.std.proofs.Common.{take, get_or}
use Rattle.std.proofs.lemmas.List.{get_or_default}
use Rattle.whole_runs.proofs.TurnLemmas.{all_turns, can_turn, plan_below, planned_nest, still_held, turn_below, turn_more}
use Rattle.whole_runs.proofs.turns.run_turns.Goals as goal

pub loop-number-init : goal.loop-number-init
loop-number-init g c entries state held = held

pub at-requires : goal.at-requires
at-requires g c =
    let items = c.as_slice-number-items.result.now in
    plan_below c.args.job.now c.args.plans.now (get_or items c.loop-number.number-index 0) c.requires.plans
    (turn_below c.args.job.now items c.loop-number.number-index (get_or items c.loop-number.number-index 0) c.args.plans.now c.requires.plans c.as_slice-number-items.ensures c.loop-number-test.true
    (get_or_default items c.loop-number.number-index 0 (get_or items c.loop-number.number-index 0) c.loop-number-test.true))

pub turn-requires : goal.turn-requires
turn-requires g c =
    let items = c.as_slice-number-items.result.now in
    can_turn c.args.job.now c.args.places.now c.loop-number.stores c.at-nest.result.now c.at.result.now
    (still_held c.args.job.now c.args.places.now c.args.stores c.loop-number.stores (take c.loop-number.number-index items) c.requires.held c.loop-number.invariant)
    (planned_nest c.args.job.now c.args.plans.now (get_or items c.loop-number.number-index 0) c.at-nest.result.now c.at.result.now c.requires.plans c.at-nest.ensures c.at.ensures)

pub loop-number-preserved : goal.loop-number-preserved
loop-number-preserved g c entries state held =
    let items = c.as_slice-number-items.result.now in
    let number = get_or items c.loop-number.number-index 0 in
    turn_more c.args.job.now c.args.places.now c.args.stores c.loop-number.stores c.in_ok-stores.stores items c.loop-number.number-index number c.at-nest.result.now c.at.result.now c.loop-number-test.true
    (get_or_default items c.loop-number.number-index 0 number c.loop-number-test.true) c.at-nest.ensures
    (planned_nest c.args.job.now c.args.plans.now number c.at-nest.result.now c.at.result.now c.requires.plans c.at-nest.ensures c.at.ensures) c.loop-number.invariant c.in_ok-stores.ensures entries state held

pub returns : goal.returns
returns g c entries state held = all_turns c.args.job.now c.args.places.now c.args.stores c.loop-number.stores c.as_slice-number-items.result.now c.loop-number.number-index c.as_slice-number-items.ensures c.loop-number.auto.number-index-end c.loop-number-test.false c.loop-number.invariant entries state held
