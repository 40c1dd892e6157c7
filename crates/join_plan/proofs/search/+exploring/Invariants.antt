-- Each call of the cycle has less to do: a step less, or less within a step. The steps so far of each loop have been tried.
use Rattle.std.proofs.Common.{◌-◌, ◌≡◌, ℕ, ◌+◌, ◌≤◌, ◌*◌, take}
use Rattle.std.specs.List.{flat_map, range_with_len}
use Rattle.term_model.specs.Plans.{Known, drives, merges, places}
use Rattle.join_plan.specs.Picks.{Keeps, following, pick, priced, seen}
use Rattle.join_plan.specs.Progress.{Knows}
use Rattle.join_plan.specs.Tasks.{measures_in, query_in}
use Rattle.join_plan.proofs.search.+exploring.Given as goal

abbrev pub decreases-explore : goal.decreases-explore
decreases-explore l = 10 * l.left

abbrev pub decreases-attempt : goal.decreases-attempt
decreases-attempt l = 10 * l.left + 5

abbrev pub decreases-attempt_all : goal.decreases-attempt_all
decreases-attempt_all l = 10 * l.left + 6

abbrev pub decreases-follow_partners : goal.decreases-follow_partners
decreases-follow_partners l = 10 * l.left + 7

abbrev pub decreases-follow_merges : goal.decreases-follow_merges
decreases-follow_merges l = 10 * l.left + 8

abbrev pub decreases-follow_drives : goal.decreases-follow_drives
decreases-follow_drives l = 10 * l.left + 8

abbrev pub decreases-follow : goal.decreases-follow
decreases-follow l = 10 * l.left + 9

abbrev pub invariant-attempt_all-loop-step : goal.invariant-attempt_all-loop-step
invariant-attempt_all-loop-step l = Keeps l.initial.prefix l.initial.best l.prefix l.best × ((k : Known) → Knows k l.progress →
    seen l.best ≡ pick (priced (query_in l.task) (measures_in l.task) k l.spent.many l.spent.cost l.initial.prefix.items) (seen l.initial.best) (following (query_in l.task) l.left k (take l.step-index l.steps)))

abbrev pub invariant-follow_drives-references : goal.invariant-follow_drives-references
invariant-follow_drives-references l = (l.reference ≤ l.references) × Keeps l.initial.prefix l.initial.best l.prefix l.best × ((k : Known) → Knows k l.progress →
    seen l.best ≡ pick (priced (query_in l.task) (measures_in l.task) k l.spent.many l.spent.cost l.initial.prefix.items) (seen l.initial.best) (following (query_in l.task) l.left k (flat_map (drives k) (range_with_len 0 l.reference))))

abbrev pub decreases-follow_drives-references : goal.decreases-follow_drives-references
decreases-follow_drives-references l = l.references - l.reference

abbrev pub invariant-follow_merges-references : goal.invariant-follow_merges-references
invariant-follow_merges-references l = (l.reference ≤ l.references) × Keeps l.initial.prefix l.initial.best l.prefix l.best × ((k : Known) → Knows k l.progress →
    seen l.best ≡ pick (priced (query_in l.task) (measures_in l.task) k l.spent.many l.spent.cost l.initial.prefix.items) (seen l.initial.best) (following (query_in l.task) l.left k (flat_map (λ r. flat_map (merges k r) (places (query_in l.task))) (range_with_len 0 l.reference))))

abbrev pub decreases-follow_merges-references : goal.decreases-follow_merges-references
decreases-follow_merges-references l = l.references - l.reference

abbrev pub invariant-follow_partners-partners : goal.invariant-follow_partners-partners
invariant-follow_partners-partners l = (l.partner ≤ l.references) × Keeps l.initial.prefix l.initial.best l.prefix l.best × ((k : Known) → Knows k l.progress →
    seen l.best ≡ pick (priced (query_in l.task) (measures_in l.task) k l.spent.many l.spent.cost l.initial.prefix.items) (seen l.initial.best) (following (query_in l.task) l.left k (flat_map (merges k l.reference) (range_with_len 0 l.partner))))

abbrev pub decreases-follow_partners-partners : goal.decreases-follow_partners-partners
decreases-follow_partners-partners l = l.references - l.partner
