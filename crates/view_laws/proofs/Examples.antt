-- A worked part and its view: what the laws ask for can be met, and what searches find.
use Rattle.std.proofs.Common.{◌≡◌, ℕ, zero, suc, ◌+◌, List, [], ◌∷◌, map, None, Some, codes, refl, arith}
use Rattle.std.specs.List.{All}
use Rattle.std.specs.List.Sorted.{IsStrictlyIncreasing}
use Rattle.std.specs.Prelude.{slice_index}
use Rattle.bern_base.specs.Matrix.{IsInside, IsMatrix}
use Rattle.bern_base.specs.declared.axes.Axis.TheVariants as axis
use Rattle.bern_base.specs.declared.job.ArrayDecl.{ArrayDecl}
use Rattle.bern_base.specs.declared.job.Checked.{Checked}
use Rattle.bern_base.specs.declared.job.FormatDecl.{FormatDecl}
use Rattle.bern_base.specs.declared.matrix.Entry.{Entry}
use Rattle.bern_base.specs.declared.matrix.Matrix.{Matrix}
use Rattle.bern_base.specs.declared.shape.Shape.TheVariants as shape
use Rattle.format_model.specs.Elements.{entry_at}
use Rattle.format_model.specs.Laws.{searched}
use Rattle.format_model.specs.Levels.{levels_of}
use Rattle.format_model.specs.Trees.{Tree}
use Rattle.formats.specs.Admitted.{IsAdmitted}
use Rattle.placement.specs.Cyclic.{cyclic_triples}
use Rattle.placement.specs.CyclicLaws.{is_placement}
use Rattle.placement.specs.Placement.{Triple, global_of, local_of, owned_indices, owned_of, owner_of}
use Rattle.view_laws.specs.PartViews.{HoldsPart, view_at}

-- `. 2 1 / . . . / . 5 .` in compressed rows, which are dealt to two ranks one at a time
array : ArrayDecl
array = record { name = codes "A"; dims = 2; rows = 3; cols = 3; format = 0; axis = axis.Row; place = 0; file = None }

format : FormatDecl
format = record { name = codes "csr"; shape = shape.DensePacked axis.Row }

job : Checked
job = record { extents = []; places = []; formats = format ∷ []; arrays = array ∷ []; nests = []; turns = []; prints = [] }

matrix : Matrix
matrix = record { rows = 3; cols = 3; entries = entry_at 0 1 2 ∷ entry_at 0 2 1 ∷ entry_at 2 1 5 ∷ [] }

places : List (List Triple)
places = cyclic_triples 3 2 1 ∷ []

entries : List (List Entry)
entries = matrix.entries ∷ []

-- the part of rank 0: the rows 0 and 2, as 0 and 1
children : ℕ → ℕ → List (ℕ × ℕ)
children zero parent = (0, 0) ∷ (1, 1) ∷ []
children (suc level) zero = (1, 0) ∷ (2, 1) ∷ []
children (suc level) (suc parent) = (1, 2) ∷ []

nodes : ℕ → ℕ
nodes zero = 1
nodes (suc zero) = 2
nodes (suc (suc level)) = 3

part : Tree
part = record { levels = levels_of (shape.DensePacked axis.Row); nodes = nodes; start = λ level parent. parent + parent; children = children; value = slice_index (2 ∷ 1 ∷ 5 ∷ []) }

is_matrix : IsMatrix matrix
unfolding matrix
is_matrix = record { inside = inside; rising = rising }
  where
    inside : All (IsInside 3 3) (entry_at 0 1 2 ∷ entry_at 0 2 1 ∷ entry_at 2 1 5 ∷ [])
    inside zero d low = (omega arith, omega arith)
    inside (suc zero) d low = (omega arith, omega arith)
    inside (suc (suc zero)) d low = (omega arith, omega arith)
    inside (suc (suc (suc k))) d low = absurd (omega (arith, low))

    rising : IsStrictlyIncreasing (1 ∷ 2 ∷ 7 ∷ [])
    rising zero low = omega arith
    rising (suc zero) low = omega arith
    rising (suc (suc k)) low = absurd (omega (arith, low))

is_admitted : IsAdmitted array format 2 [] matrix
unfolding array format matrix
is_admitted = record {
  rows = omega arith;
  cols = omega arith;
  side = λ same. cc;
  levels = λ same. cc;
  dims = refl;
  by_row = λ is. absurd cc;
  flat = λ one. absurd (omega (arith, one));
  matrix = is_matrix;
  checked = refl;
  listed = tt;
  weight = omega arith;
}

-- the part is held
holds : HoldsPart job entries places 2 0 0 part
unfolding job array format matrix places entries part children nodes owner_of local_of owned_of owned_indices
holds = record {
  array = array;
  format = format;
  order = [];
  matrix = matrix;
  array_is = refl;
  format_is = refl;
  admitted = is_admitted;
  entries_are = refl;
  placed = is_placement 3 2 1 (omega arith) (omega arith);
  extent = refl;
  described = record { levels = refl; content = refl };
}

-- searches in its view find the elements of the rows 0 and 2 that are stored, and no other: here (0,0), (0,1), (0,2), (2,1) and (2,2)
finds : map (searched (view_at places array 0 part)) ((0 ∷ 0 ∷ []) ∷ (0 ∷ 1 ∷ []) ∷ (0 ∷ 2 ∷ []) ∷ (2 ∷ 1 ∷ []) ∷ (2 ∷ 2 ∷ []) ∷ []) ≡
    None ∷ Some 2 ∷ Some 1 ∷ Some 5 ∷ None ∷ []
unfolding places array part children nodes owned_of owned_indices global_of
finds = refl
