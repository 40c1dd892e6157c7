-- A product as a run on ranks, and the state before it.
use Rattle.std.specs.Prelude.{◌≡◌, ℕ, ◌+◌, ◌*◌, ◌/◌, ◌%◌, Bool, List, [], Option, Some, None, map, slice_get}
use Rattle.std.specs.Int.{div_ceil}
use Rattle.std.specs.List.{All, range_with_len}
use Rattle.bern_base.specs.Matrix.{IsMatrix, values_of}
use Rattle.bern_base.specs.declared.axes.Axis.TheVariants.{Row}
use Rattle.bern_base.specs.declared.job.ArrayDecl.{ArrayDecl}
use Rattle.bern_base.specs.declared.job.Checked.{Checked}
use Rattle.bern_base.specs.declared.matrix.Entry.{Entry}
use Rattle.bern_base.specs.declared.matrix.Matrix.{Matrix}
use Rattle.job_model.specs.State.{State}
use Rattle.placement.specs.Cyclic.{cyclic_triples}
use Rattle.placement.specs.Part.{part_of}
use Rattle.placement.specs.Placement.{Triple, owned_of, global_of}
use Rattle.placement.specs.declared.part.Part.{Part}
use Rattle.rank_model.specs.Products.{Run}
use Rattle.rank_product.specs.declared.shape.ProductShape.{ProductShape}

-- the values that the arrays begin with
abbrev pub first_state : List Matrix → State
first_state matrices = map values_of matrices

-- the matrices of the arrays of a job, each of the rows and columns of its array
abbrev pub sizes_of : Matrix → ℕ × ℕ
sizes_of m = (m.rows, m.cols)

abbrev pub declared_sizes : ArrayDecl → ℕ × ℕ
declared_sizes array = (array.rows, array.cols)

pub record AreOfJob (job : Checked) (matrices : List Matrix) : Type 0 where
  pub sizes : map sizes_of matrices ≡ map declared_sizes job.arrays
  pub matrices_are : All IsMatrix matrices

-- the entries and the columns of one of them; a matrix that is not there has none
abbrev pub entries_of : Option Matrix → List Entry
entries_of None = []
entries_of (Some m) = m.entries

abbrev pub cols_of : Option Matrix → ℕ
cols_of None = 0
cols_of (Some m) = m.cols

-- one block of the extent for each rank
abbrev pub block_place : ℕ → ℕ → List Triple
block_place size ranks = cyclic_triples size ranks (div_ceil size ranks)

-- the elements of an array of so many columns that lie in the rows of a rank, by the rank's own numbers
abbrev pub owned_element : ℕ → List Triple → ℕ → ℕ → ℕ
owned_element cols place rank l = global_of place rank (l / cols) * cols + l % cols

abbrev pub owned_elements : ℕ → List Triple → ℕ → List ℕ
owned_elements cols place rank = map (owned_element cols place rank) (range_with_len 0 (owned_of place rank * cols))

-- the product of these matrices on so many ranks; `whole` tells which arrays are stored whole
abbrev pub run_of : (ℕ → Bool) → ProductShape → ℕ → List Matrix → Run
run_of whole p ranks matrices = record {
  ranks = ranks;
  place = block_place p.size ranks;
  target = p.target;
  stored = p.stored;
  source = p.source;
  entries = entries_of (slice_get matrices p.stored);
  dense = whole;
  held = λ array rank. owned_elements (cols_of (slice_get matrices array)) (block_place p.size ranks) rank;
  first = first_state matrices;
}

-- the parts of all arrays that a rank has, by their rows
abbrev pub parts_at : List Triple → ℕ → List Matrix → List Part
parts_at place rank matrices = map (part_of Row place rank) matrices
