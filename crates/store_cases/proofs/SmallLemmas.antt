-- A small matrix can be free in each format that it suits.
use Rattle.std.proofs.Common.{◌≡◌, ℕ, ◌*◌, ◌^◌, ◌<◌, List, true, length, sym, subst, arith}
use Rattle.std.proofs.lemmas.List.FromFn.{length-map-range_with_len}
use Rattle.bern_base.specs.declared.matrix.Matrix.{Matrix}
use Rattle.bern_base.specs.declared.shape.Shape.{Shape}
use Rattle.bern_base.specs.declared.shape.Shape.TheVariants as shape
use Rattle.format_model.specs.Laws.{Suits}
use Rattle.format_model.specs.Stored.{all_elements, element_at, stored_elements}
use Rattle.formats.specs.Builds.{CanBuild, HasDiagonals}
use Rattle.store_cases.specs.Small.{IsSmall, is_free}

few_elements : (m : Matrix) → IsSmall m → length (all_elements m) < 2 ^ 32
few_elements m small = subst (λ n. n < 2 ^ 32) (sym (length-map-range_with_len (element_at m) 0 (m.rows * m.cols))) small.elements

few_stored : (s : Shape) (globals : List ℕ) (m : Matrix) → is_free s ≡ true → IsSmall m → length (stored_elements s globals m) < 2 ^ 32
few_stored shape.DenseOne globals m free small = few_elements m small
few_stored shape.PackedOne globals m free small = small.entries
few_stored shape.ListOne globals m free small = small.entries
few_stored (shape.DenseDense outer) globals m free small = few_elements m small
few_stored (shape.DensePacked outer) globals m free small = small.entries
few_stored (shape.PackedPacked outer) globals m free small = small.entries
few_stored shape.ListTwo globals m free small = small.entries
few_stored shape.Jagged globals m free small = small.entries
few_stored (shape.Diagonal offsets) globals m free small = absurd cc
few_stored (shape.Permute file) globals m free small = small.entries

no_diagonals : (s : Shape) (globals : List ℕ) (m : Matrix) → is_free s ≡ true → HasDiagonals s globals m
no_diagonals (shape.Diagonal offsets) globals m free = absurd cc
no_diagonals shape.DenseOne globals m free = tt
no_diagonals shape.PackedOne globals m free = tt
no_diagonals shape.ListOne globals m free = tt
no_diagonals (shape.DenseDense outer) globals m free = tt
no_diagonals (shape.DensePacked outer) globals m free = tt
no_diagonals (shape.PackedPacked outer) globals m free = tt
no_diagonals shape.ListTwo globals m free = tt
no_diagonals shape.Jagged globals m free = tt
no_diagonals (shape.Permute file) globals m free = tt

pub can_build : (s : Shape) (globals order : List ℕ) (m : Matrix) → is_free s ≡ true → Suits s globals order m → IsSmall m → CanBuild s globals order m
can_build s globals order m free suits small = record {
  matrix = small.matrix;
  suits = suits;
  few = few_stored s globals m free small;
  small = let fits : m.rows * m.cols < 2 ^ 32 = small.elements in omega (arith, fits);
  diagonals = no_diagonals s globals m free;
}
