-- A format lists every stored element once.
use Rattle.std.proofs.Common.{◌≡◌, ◌%◌, List, map, sym, ap, ◌∙◌, subst, arith}
use Rattle.std.specs.List.Sorted.{IsPermutation}
use Rattle.std.proofs.lemmas.List.Elements.{All-weaker}
use Rattle.std.proofs.lemmas.List.Folds.{map_fixed}
use Rattle.std.proofs.lemmas.List.Sorted.{IsPermutation-refl}
use Rattle.std.proofs.lemmas.Nat.{div-mul-add, mod-mul-add}
use Rattle.std.proofs.lemmas.Simd.{map-map}
use Rattle.bern_base.specs.Matrix.{IsInside, IsMatrix, number}
use Rattle.bern_base.specs.declared.axes.Axis.{Axis}
use Rattle.bern_base.specs.declared.axes.Axis.TheVariants as axis
use Rattle.bern_base.specs.declared.matrix.Entry.{Entry}
use Rattle.bern_base.specs.declared.matrix.Matrix.{Matrix}
use Rattle.bern_base.specs.declared.shape.Shape.TheVariants as shape
use Rattle.format_model.specs.Content.{One, all_lines, filled_lines, leaf_on, local_rows, rows_by_count}
use Rattle.format_model.specs.Elements.{elements_on, entry_at, leaf_element}
use Rattle.format_model.specs.Laws.{EachStoredElementOnce}
use Rattle.format_model.proofs.ContentLemmas.{in_all_lines, in_filled_lines, lines-permutation, row_side}
use Rattle.format_model.proofs.DenseLemmas.{dense-permutation, vector_elements}
use Rattle.format_model.proofs.DiagonalLemmas.{diagonal-permutation}
use Rattle.format_model.proofs.OrderLemmas.{in_local_rows, in_rows_by_count}

same-permutation : {X : Type 0} (xs ys : List X) → xs ≡ ys → IsPermutation xs ys
same-permutation xs ys same = subst (λ zs. IsPermutation xs zs) same (IsPermutation-refl xs)

-- entries in one level, turned back into elements
leaves_back : (a : Axis) (m : Matrix) → ((e : Entry) → IsInside m.rows m.cols e → leaf_element a m.cols (leaf_on a m.cols e) ≡ e) → IsMatrix m →
    IsPermutation m.entries (elements_on a m.cols (One (map (leaf_on a m.cols) m.entries)))
leaves_back a m back is =
    same-permutation m.entries (map (leaf_element a m.cols) (map (leaf_on a m.cols) m.entries))
    (sym (map-map (leaf_element a m.cols) (leaf_on a m.cols) m.entries
    ∙ map_fixed (λ e. leaf_element a m.cols (leaf_on a m.cols e)) m.entries (All-weaker (IsInside m.rows m.cols) (λ e. leaf_element a m.cols (leaf_on a m.cols e) ≡ e) back m.entries is.inside)))

-- in one column every entry has the column 0
vector_back : (m : Matrix) → m.cols ≡ 1 → (e : Entry) → IsInside m.rows m.cols e → leaf_element axis.Row m.cols (leaf_on axis.Row m.cols e) ≡ e
vector_back m one e inside = let first : 0 ≡ e.col = omega (arith, one, inside.1) in ap (λ c. entry_at e.row c e.value) first

number_back : (m : Matrix) (e : Entry) → IsInside m.rows m.cols e → leaf_element axis.Both m.cols (leaf_on axis.Both m.cols e) ≡ e
number_back m e inside =
    ap (λ r. entry_at r (number m.cols e % m.cols) e.value) (div-mul-add e.row m.cols e.col inside.1) ∙ ap (λ c. entry_at e.row c e.value) (mod-mul-add e.row m.cols e.col inside.1)

pub each-stored_element-once : EachStoredElementOnce
each-stored_element-once shape.DenseOne globals order m is suits = same-permutation _ _ (vector_elements m suits)
each-stored_element-once shape.PackedOne globals order m is suits = leaves_back axis.Row m (vector_back m suits) is
each-stored_element-once shape.ListOne globals order m is suits = leaves_back axis.Row m (vector_back m suits) is
each-stored_element-once (shape.DenseDense outer) globals order m is suits = dense-permutation outer m suits
each-stored_element-once (shape.DensePacked outer) globals order m is suits = lines-permutation outer m (all_lines outer m) suits (in_all_lines outer m suits is)
each-stored_element-once (shape.PackedPacked outer) globals order m is suits = lines-permutation outer m (filled_lines outer m) suits (in_filled_lines outer m suits is)
each-stored_element-once shape.ListTwo globals order m is suits = leaves_back axis.Both m (number_back m) is
each-stored_element-once shape.Jagged globals order m is suits = lines-permutation axis.Row m (rows_by_count m) row_side (in_rows_by_count m is)
each-stored_element-once (shape.Diagonal offsets) globals order m is suits = diagonal-permutation offsets globals m suits
each-stored_element-once (shape.Permute file) globals order m is suits = lines-permutation axis.Row m (local_rows globals order) row_side (in_local_rows globals order m suits.0 is suits.1)
