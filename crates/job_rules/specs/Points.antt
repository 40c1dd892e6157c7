-- What the least and greatest value of a subscript mean: its values at the points of the box.
use Rattle.std.specs.Prelude.{◌≡◌, ◌⊎◌, ◌↔◌, ℕ, List, Some, None, true, false, ℤ, pos, ◌+ℤ◌, ◌*ℤ◌, ◌≤ℤ◌, ◌<ℤ◌}
use Rattle.std.specs.List.{fold}
use Rattle.job_rules.specs.declared.items.Item.{Item}
use Rattle.job_rules.specs.declared.ranges.Range.{Range}
use Rattle.job_rules.specs.Sums.{Sum, variable_of, range_at}
use Rattle.job_rules.specs.Nests.{is_box_empty, leaves_extent}

-- a point gives each variable, by its number, a value
abbrev pub Point : Type 0
Point = ℕ → ℤ

-- each value is one of its variable's
abbrev pub InBox : List Range → Point → Type 0
InBox ranges point = (v : ℕ) → ((range_at ranges v).lo ≤ℤ point v) × (point v <ℤ (range_at ranges v).hi)

-- an item as it is written: a number, or so many times the value of its variable
abbrev pub value_part : Point → Item → ℤ
value_part point item = elim (variable_of item.meaning) [ None ↦ item.number | Some v ↦ item.number *ℤ point v ]

abbrev pub value_at : Point → Sum → ℤ
value_at point sum = fold (λ total item. total +ℤ value_part point item) (pos 0) sum

-- at some point of the box the sum, as it is written, is below 0 or not below the extent
abbrev pub LeavesSomewhere : List Range → ℕ → Sum → Type 0
LeavesSomewhere ranges extent sum = (point : Point) × InBox ranges point × ((value_at point sum <ℤ pos 0) ⊎ (pos extent ≤ℤ value_at point sum))

-- over a box that is not empty, a subscript leaves its extent exactly where it does at some point
abbrev pub LeavesAtPoints : Type 0
LeavesAtPoints = (ranges : List Range) (extent : ℕ) (sum : Sum) → is_box_empty ranges ≡ false → ((leaves_extent ranges extent sum ≡ true) ↔ LeavesSomewhere ranges extent sum)
