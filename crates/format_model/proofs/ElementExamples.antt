-- Stored elements of small matrices, and what formats list as elements, computed.
use Rattle.std.proofs.Common.{◌≡◌, true, false, [], ◌∷◌, codes, Some, None, refl, rules}
use Rattle.bern_base.specs.declared.axes.Axis.TheVariants as axis
use Rattle.bern_base.specs.declared.shape.Shape.TheVariants as shape
use Rattle.format_model.specs.Content.{content_of}
use Rattle.format_model.specs.Elements.{elements_of, path_of, value_at}
use Rattle.format_model.specs.Laws.{Suits}
use Rattle.format_model.specs.Stored.{is_stored, stored_elements}
use Rattle.format_model.specs.Content.{content_of}
use Rattle.format_model.specs.Stored.{is_stored, stored_elements}
use Rattle.format_model.proofs.Examples.{entry, last_rows, matrix, three_diagonals, vector, whole, zeroed}

-- ---- stored elements

stored_on_diagonals : stored_elements three_diagonals (1 ∷ 2 ∷ []) last_rows ≡ entry 0 0 3 ∷ entry 0 1 0 ∷ entry 1 1 0 ∷ entry 1 2 4 ∷ []
stored_on_diagonals = refl

stored_where_dense : stored_elements (shape.DenseDense axis.Col) (0 ∷ 1 ∷ []) zeroed ≡ entry 0 0 0 ∷ entry 0 1 0 ∷ entry 1 0 0 ∷ entry 1 1 0 ∷ []
stored_where_dense = refl

one_is_stored : is_stored three_diagonals [] 2 1 ≡ true
one_is_stored = refl

one_is_not : is_stored three_diagonals [] 1 2 ≡ false
one_is_not = refl

an_entry_is_stored : is_stored shape.Jagged (entry 1 0 0 ∷ []) 1 0 ≡ true
an_entry_is_stored = refl

its_neighbour_is_not : is_stored shape.Jagged (entry 1 0 0 ∷ []) 0 1 ≡ false
its_neighbour_is_not = refl

-- ---- what is listed, as elements

columns_as_elements : elements_of (shape.DensePacked axis.Col) 3 (content_of (shape.DensePacked axis.Col) whole [] matrix) ≡ entry 0 1 2 ∷ entry 2 1 5 ∷ entry 0 2 1 ∷ []
columns_as_elements = refl

numbers_as_elements : elements_of shape.ListTwo 3 (content_of shape.ListTwo whole [] matrix) ≡ matrix.entries
numbers_as_elements = refl

leaves_as_elements : elements_of shape.PackedOne 1 (content_of shape.PackedOne whole [] vector) ≡ vector.entries
leaves_as_elements = refl

by_columns : path_of (shape.PackedPacked axis.Col) 3 2 1 ≡ 1 ∷ 2 ∷ []
by_columns = refl

by_number : path_of shape.ListTwo 3 2 1 ≡ 7 ∷ []
by_number = refl

value_in_a_column : value_at (content_of (shape.PackedPacked axis.Col) whole [] matrix) (1 ∷ 2 ∷ []) ≡ Some 5
value_in_a_column = refl

no_value_beside_it : value_at (content_of (shape.PackedPacked axis.Col) whole [] matrix) (0 ∷ 2 ∷ []) ≡ None
no_value_beside_it = refl

-- the rows 1 and 2 of three, in the order 2, 0, 1
an_order : Suits (shape.Permute (codes "p")) (1 ∷ 2 ∷ []) (2 ∷ 0 ∷ 1 ∷ []) last_rows
an_order = (
  3,
  record {
    each_once = record { moves = (1, 2) ∷ (0, 2) ∷ []; below = search rules; is = refl };
    rising = search rules;
    within = search rules;
    long = refl;
  },
)
