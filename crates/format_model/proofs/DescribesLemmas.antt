-- A tree that describes a part holds its stored elements.
use Rattle.std.proofs.Common.{◌≡◌, ◌<◌, ◌≤◌, length, sym, ap, ◌∙◌, subst, arith}
use Rattle.std.specs.List.Sorted.{IsPermutation}
use Rattle.std.proofs.lemmas.List.{length-map}
use Rattle.bern_base.specs.declared.shape.Shape.{Shape}
use Rattle.bern_base.specs.declared.shape.Shape.TheVariants as shape
use Rattle.format_model.specs.Axes.{index_of}
use Rattle.format_model.specs.Elements.{elements_of, entry_at, path_of, value_at}
use Rattle.format_model.specs.Laws.{DescribedPartsAreHeld}
use Rattle.format_model.specs.Levels.{levels_of}
use Rattle.format_model.specs.Stored.{stored_elements}
use Rattle.format_model.specs.Trees.{depth_of}
use Rattle.format_model.proofs.AgreeLemmas.{lists-the_stored_values}
use Rattle.format_model.proofs.OnceLemmas.{each-stored_element-once}
use Rattle.format_model.proofs.SearchLemmas.{searches-find_the_content}

-- every format has one level or two
one_or_two : (s : Shape) → (0 < length (levels_of s)) × (length (levels_of s) ≤ 2)
one_or_two shape.DenseOne = (omega arith, omega arith)
one_or_two shape.PackedOne = (omega arith, omega arith)
one_or_two shape.ListOne = (omega arith, omega arith)
one_or_two (shape.DenseDense outer) = (omega arith, omega arith)
one_or_two (shape.DensePacked outer) = (omega arith, omega arith)
one_or_two (shape.PackedPacked outer) = (omega arith, omega arith)
one_or_two shape.ListTwo = (omega arith, omega arith)
one_or_two shape.Jagged = (omega arith, omega arith)
one_or_two (shape.Diagonal offsets) = (omega arith, omega arith)
one_or_two (shape.Permute file) = (omega arith, omega arith)

pub described_parts-are_held : DescribedPartsAreHeld
described_parts-are_held t s globals order m described is suits =
    let depth : depth_of t ≡ length (levels_of s) = ap length described.levels in
    let some : 0 < depth_of t = omega (arith, depth, (one_or_two s).0) in
    let few : depth_of t ≤ 2 = omega (arith, depth, (one_or_two s).1) in record {
      once = subst (λ c. IsPermutation (stored_elements s globals m) (elements_of s m.cols c)) (sym described.content) (each-stored_element-once s globals order m is suits);
      found = λ row col high low.
          searches-find_the_content t (path_of s m.cols row col) some few (length-map (levels_of s) (λ l. index_of l.axis m.cols (entry_at row col 0)) ∙ sym depth)
          ∙ ap (λ c. value_at c (path_of s m.cols row col)) described.content ∙ lists-the_stored_values s globals order m is suits row col high low;
    }
