-- The references before this one have searched.
use Rattle.std.proofs.Common.{◌≡◌, ◌≤◌, ◌-◌, ◌*◌, ◌<◌, ℕ}
use Rattle.bern_base.specs.declared.limits.TheConstants.{MOST_WEIGHT}
use Rattle.term_model.specs.Plans.{Known, searches}
use Rattle.join_plan.specs.Costs.{weight_of}
use Rattle.join_plan.specs.Progress.{Knows, searched_by, tries_before}
use Rattle.join_plan.specs.Tasks.{measures_in, query_in}
use Rattle.join_plan.proofs.task.Task.search.Given as goal

abbrev pub invariant-references : goal.invariant-references
invariant-references l =
    (l.reference ≤ l.references) × (l.found.weight ≤ 2 * l.reference * MOST_WEIGHT)
    × ((k : Known) → Knows k l.progress → Knows (searched_by (query_in l.self) k (tries_before (query_in l.self) l.reference)) l.found.progress)
    × ((k : Known) → Knows k l.progress → l.found.weight ≡ weight_of (measures_in l.self) (searches (query_in l.self) k (tries_before (query_in l.self) l.reference)))

abbrev pub decreases-references : goal.decreases-references
decreases-references l = l.references - l.reference
