-- The axes of a matrix: what the index of an entry is on each, and how many indices there are.
use Rattle.std.specs.Prelude.{ℕ, ◌*◌, Bool, true, false}
use Rattle.bern_base.specs.Matrix.{element, number}
use Rattle.bern_base.specs.declared.axes.Axis.{Axis}
use Rattle.bern_base.specs.declared.axes.Axis.TheVariants as axis
use Rattle.bern_base.specs.declared.matrix.Entry.{Entry}
use Rattle.bern_base.specs.declared.matrix.Matrix.{Matrix}

-- the axis across this one: that of the lines' own indices, where this one numbers the lines
abbrev pub across : Axis → Axis
across axis.Row = axis.Col
across axis.Col = axis.Row
across axis.Both = axis.Both

abbrev pub same_axis : Axis → Axis → Bool
same_axis axis.Row axis.Row = true
same_axis axis.Col axis.Col = true
same_axis axis.Both axis.Both = true
same_axis one other = false

-- how many indices an axis has in an array of so many rows and columns
abbrev pub extent_of : Axis → ℕ → ℕ → ℕ
extent_of axis.Row rows cols = rows
extent_of axis.Col rows cols = cols
extent_of axis.Both rows cols = rows * cols

-- the index of an entry on an axis: its row, its column, or its element number in a matrix with this many columns
abbrev pub index_of : Axis → ℕ → Entry → ℕ
index_of axis.Row cols e = e.row
index_of axis.Col cols e = e.col
index_of axis.Both cols e = number cols e

-- the value of a matrix at these indices, the first one on this axis and the second across it; 0 where no entry is
abbrev pub value_on : Axis → Matrix → ℕ → ℕ → ℕ
value_on axis.Row m line i = element m.cols m.entries (number m.cols (record { row = line; col = i; value = 0 }))
value_on axis.Col m line i = element m.cols m.entries (number m.cols (record { row = i; col = line; value = 0 }))
value_on axis.Both m line i = 0
