-- The file of an array is tried by the rule of its shape.
use Rattle.std.proofs.Common.{◌≡◌, ℕ, List, [], Option, Some, None, slice_get, refl, ap, ◌∙◌}
use Rattle.std.specs.List.{All}
use Rattle.std.proofs.lemmas.List.Elements.{All-cons, All-nil}
use Rattle.bern_base.specs.declared.job.ArrayDecl.{ArrayDecl}
use Rattle.bern_base.specs.declared.job.FormatDecl.{FormatDecl}
use Rattle.bern_base.specs.declared.matrix.Matrix.{Matrix}
use Rattle.bern_base.specs.declared.shape.Shape.{Shape}
use Rattle.bern_base.specs.declared.shape.Shape.TheVariants as shape
use Rattle.format_model.specs.Checks as checks
use Rattle.format_model.specs.Checks.{first_of, shape_rule, sizes_rule}
use Rattle.job_files.specs.FileOrder.{astray_rule, broken_rule}
use Rattle.job_files.specs.Uses.{diagonals_of, file_use, listed_by, listed_in}
use Rattle.job_files.specs.declared.uses.Use.{Use}
use Rattle.job_files.specs.declared.uses.Use.TheVariants as by

-- a use knows no format but the diagonals that it lists
same_astray : (s : Shape) (m : Matrix) → astray_rule (listed_in s) m ≡ checks.astray_rule s m
same_astray shape.DenseOne m = refl
same_astray shape.PackedOne m = refl
same_astray shape.ListOne m = refl
same_astray (shape.DenseDense outer) m = refl
same_astray (shape.DensePacked outer) m = refl
same_astray (shape.PackedPacked outer) m = refl
same_astray shape.ListTwo m = refl
same_astray shape.Jagged m = refl
same_astray (shape.Diagonal offsets) m = refl
same_astray (shape.Permute file) m = refl

pub tried_by_shape :
    (formats : List FormatDecl) (array : ArrayDecl) (format : FormatDecl) (m : Matrix) → slice_get formats array.format ≡ Some format →
    All (λ u. broken_rule m u ≡ shape_rule array format m) (file_use array (diagonals_of formats array) array.file)
tried_by_shape formats array format m is = at array.file
  where
    agrees : Use → Type 0
    agrees u = broken_rule m u ≡ shape_rule array format m

    tried : first_of (sizes_rule array.rows array.cols m) (astray_rule (diagonals_of formats array) m) ≡ shape_rule array format m
    tried = ap (λ found. first_of (sizes_rule array.rows array.cols m) (astray_rule (listed_by found) m)) is
        ∙ ap (first_of (sizes_rule array.rows array.cols m)) (same_astray format.shape m)

    at : (file : Option (List ℕ)) → All (λ u. broken_rule m u ≡ shape_rule array format m) (file_use array (diagonals_of formats array) file)
    at None = All-nil agrees
    at (Some file) = All-cons agrees (by.Array file array.rows array.cols (diagonals_of formats array)) [] tried (All-nil agrees)
