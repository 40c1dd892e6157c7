-- What is known of the levels of a stored matrix before any loop runs: how many children a parent has, about, and what a search costs.
use Rattle.std.specs.Prelude.{ℕ, ◌==◌, if◌then◌else◌, List, [], ◌∷◌, length, map}
use Rattle.std.specs.Int.{div_ceil}
use Rattle.std.specs.List.{zip}
use Rattle.bern_base.specs.declared.axes.Axis.{Axis}
use Rattle.bern_base.specs.declared.matrix.Matrix.{Matrix}
use Rattle.bern_base.specs.declared.shape.Shape.{Shape}
use Rattle.bern_base.specs.declared.shape.Shape.TheVariants as shape
use Rattle.bern_base.specs.declared.stats.LevelStat.{LevelStat}
use Rattle.format_model.specs.Axes.{across, extent_of}
use Rattle.format_model.specs.Content.{filled_lines}
use Rattle.format_model.specs.Levels.{Level, levels_of, steps_of}

-- a divided by b, rounded up; 0 where b is 0
abbrev pub rounded_up : ℕ → ℕ → ℕ
rounded_up a b = if b == 0 then 0 else div_ceil a b

abbrev pub extent_in : Axis → Matrix → ℕ
extent_in a m = extent_of a m.rows m.cols

-- the entries of a matrix, spread evenly over so many lines
abbrev pub spread_over : ℕ → Matrix → List ℕ
spread_over lines m = lines ∷ rounded_up (length m.entries) lines ∷ []

-- the table of the estimates, the outer level first
abbrev pub estimates_of : Shape → Matrix → List ℕ
estimates_of shape.DenseOne m = m.rows ∷ []
estimates_of shape.PackedOne m = length m.entries ∷ []
estimates_of shape.ListOne m = length m.entries ∷ []
estimates_of (shape.DenseDense outer) m = extent_in outer m ∷ extent_in (across outer) m ∷ []
estimates_of (shape.DensePacked outer) m = spread_over (extent_in outer m) m
estimates_of (shape.PackedPacked outer) m = spread_over (length (filled_lines outer m)) m
estimates_of shape.ListTwo m = length m.entries ∷ []
estimates_of shape.Jagged m = spread_over m.rows m
estimates_of (shape.Diagonal offsets) m = m.rows ∷ length offsets ∷ []
estimates_of (shape.Permute file) m = spread_over m.rows m

-- the weight of a level in costs is what a look-up takes below a parent with as many children as estimated
abbrev pub stat_of : Level × ℕ → LevelStat
stat_of l = record { axis = l.0.axis; ordered = l.0.ordered; estimate = l.1; weight = steps_of l.0.lookup l.1 }

abbrev pub stats_of : Shape → Matrix → List LevelStat
stats_of s m = map stat_of (zip (levels_of s) (estimates_of s m))
