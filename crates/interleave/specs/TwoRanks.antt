-- One run by hand, for the tests: T[v] += S[v,w] * D[w] over two rows, one on each of two ranks. D is (5, 7), T is (10, 20),
-- and the rows of S are (0, 3) and (0, 2), so rank 0 reads an element of rank 1.
use Rattle.std.specs.Prelude.{ℕ, ◌==◌, if◌then◌else◌, false, List, [], ◌∷◌, None, pos}
use Rattle.bern_base.specs.declared.axes.Axis.TheVariants.{Row}
use Rattle.bern_base.specs.declared.job.ArrayDecl.{ArrayDecl}
use Rattle.bern_base.specs.declared.job.Checked.{Checked}
use Rattle.bern_base.specs.declared.job.Expr.{Expr, roll-Expr}
use Rattle.bern_base.specs.declared.job.Factor.{Factor}
use Rattle.bern_base.specs.declared.job.Factor.TheVariants.{Read}
use Rattle.bern_base.specs.declared.job.Nest.{Nest}
use Rattle.bern_base.specs.declared.job.PlaceKind.TheVariants.{Block}
use Rattle.bern_base.specs.declared.job.Product.{roll-Product}
use Rattle.bern_base.specs.declared.job.Ref.{Ref}
use Rattle.bern_base.specs.declared.job.Span.{Span}
use Rattle.bern_base.specs.declared.matrix.Entry.{Entry}
use Rattle.bern_base.specs.declared.shape.Shape.TheVariants as shape
use Rattle.placement.specs.Cyclic.{cyclic_triples}
use Rattle.placement.specs.Placement.{Triple, owned_indices}
use Rattle.placement.specs.declared.part.Part.{Part}
use Rattle.rank_model.specs.Products.{Run}
use Rattle.rank_node.specs.Jobs.{is_whole, nothing, variable_v, variable_w}

abbrev pub span_of_two : Span
span_of_two = record { name = []; lo = pos 0; hi = pos 2 }

-- D, T and S are arrays 0, 1 and 2
abbrev pub array_of_two : ℕ → ℕ → ℕ → ArrayDecl
array_of_two dims cols format =
    record { name = []; dims = dims; rows = 2; cols = cols; format = format; axis = Row; place = 0; file = None }

abbrev pub target_of_two : Ref
target_of_two = record { array = 1; row = variable_v; col = nothing }

abbrev pub factors_of_two : List Factor
factors_of_two =
    Read (record { array = 2; row = variable_v; col = variable_w })
    ∷ Read (record { array = 0; row = variable_w; col = nothing }) ∷ []

abbrev pub body_of_two : Expr
body_of_two = roll-Expr (record { sums = roll-Product (record { minus = false; factors = factors_of_two }) ∷ [] })

abbrev pub nest_of_two : Nest
nest_of_two = record {
  line = 1;
  vars = span_of_two ∷ span_of_two ∷ [];
  guards = [];
  target = target_of_two;
  replace = false;
  body = body_of_two;
}

abbrev pub job_of_two : Checked
job_of_two = record {
  extents = record { name = []; size = 2 } ∷ [];
  places = record { name = []; extent = 0; kind = Block; arrays_before = 0 } ∷ [];
  formats = record { name = []; shape = shape.DenseOne } ∷ record { name = []; shape = shape.ListTwo } ∷ [];
  arrays = array_of_two 1 1 0 ∷ array_of_two 1 1 0 ∷ array_of_two 2 2 1 ∷ [];
  nests = nest_of_two ∷ [];
  turns = 0 ∷ [];
  prints = 1 ∷ [];
}

abbrev pub entry_at : ℕ → ℕ → ℕ → Entry
entry_at row col value = record { row = row; col = col; value = value }

abbrev pub place_of_two : List Triple
place_of_two = cyclic_triples 2 2 1

abbrev pub run_of_two : Run
run_of_two = record {
  ranks = 2;
  place = place_of_two;
  target = 1;
  stored = 2;
  source = 0;
  entries = entry_at 0 1 3 ∷ entry_at 1 1 2 ∷ [];
  dense = is_whole job_of_two;
  held = λ array rank. owned_indices place_of_two rank;
  first = (5 ∷ 7 ∷ []) ∷ (10 ∷ 20 ∷ []) ∷ (0 ∷ 3 ∷ 0 ∷ 2 ∷ []) ∷ [];
}

-- what rank 0 has, and what rank 1 has
abbrev pub at_rank : ℕ → ℕ → ℕ → ℕ
at_rank rank zeroth first = if rank == 0 then zeroth else first

abbrev pub part_of_two : ℕ → ℕ → Entry → Part
part_of_two rank cols entry = record { matrix = record { rows = 1; cols = cols; entries = entry ∷ [] }; globals = rank ∷ [] }

abbrev pub parts_of_two : ℕ → List Part
parts_of_two rank =
    part_of_two rank 1 (entry_at 0 0 (at_rank rank 5 7))
    ∷ part_of_two rank 1 (entry_at 0 0 (at_rank rank 10 20))
    ∷ part_of_two rank 2 (entry_at 0 1 (at_rank rank 3 2)) ∷ []
