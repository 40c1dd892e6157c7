use Rattle.std.proofs.Common.{map}
use Rattle.rank_scripts.proofs.WorldLemmas.{run_fit}
use Rattle.turn_model.specs.Runs.{scripts}
use Rattle.turn_world.specs.Worlds.{event_of, world_in}
use Rattle.turn_world.proofs.laws.every_list_of_events_is_fit.Goals as goal

pub returns : goal.returns
returns g c = λ run nodes boxes is events. run_fit (scripts run) (world_in run nodes boxes) (map event_of events) is.fit
