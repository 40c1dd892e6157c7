use Rattle.std.proofs.Common.{ℕ, List, ℤ, sym, subst, ◌∙◌, arith}
use Rattle.bern_base.specs.declared.shape.Shape.TheVariants as shape
use Rattle.format_model.specs.Trees.{Describes}
use Rattle.stores_shaped.specs.Diagonals.{IsDiagonal, diagonal_tree}
use Rattle.stores_shaped.proofs.CrossingLemmas.{few_offsets}
use Rattle.stores_shaped.proofs.DiagonalLemmas.{diagonal_describes, diagonal_of}
use Rattle.stores_shaped.proofs.diagonal.DiagonalStore.build.Goals as goal

pub find_windows-requires-clause-listed : goal.find_windows-requires-clause-listed
find_windows-requires-clause-listed c = few_offsets c.args.offsets.now c.requires.rise c.requires.small

pub invariant_of-result : goal.invariant_of-result
invariant_of-result c =
    let m = c.args.part.now in
    let f = c.in_ok-found.found.firsts.items in
    let s = c.in_ok-found.found.starts.items in
    let v = c.in_ok-values.values.items in
    let is = diagonal_of m c.args.offsets.now c.args.globals.now f s v (omega arith) (omega (arith, c.requires.rows)) c.requires.rise c.requires.small c.in_ok-found.ensures c.in_ok-values.ensures in record {
      diagonal = subst (λ (os : List ℤ). IsDiagonal m.cols os c.in_ok-from_slice-2.field-0 f s v) (sym (c.in_ok-from_slice.ensures ∙ c.as_slice.ensures))
          (subst (λ (gs : List ℕ). IsDiagonal m.cols c.args.offsets.now gs f s v) (sym (c.in_ok-from_slice-2.ensures ∙ c.as_slice-2.ensures)) is);
    }

pub returns : goal.returns
returns c order =
    let m = c.args.part.now in
    let f = c.in_ok-found.found.firsts.items in
    let s = c.in_ok-found.found.starts.items in
    let v = c.in_ok-values.values.items in
    let globals = c.args.globals.now in
    let offsets = c.args.offsets.now in
    subst (λ (os : List ℤ). Describes (diagonal_tree os c.in_ok-from_slice-2.field-0 f s v) (shape.Diagonal offsets) globals order m) (sym (c.in_ok-from_slice.ensures ∙ c.as_slice.ensures))
    (subst (λ (gs : List ℕ). Describes (diagonal_tree offsets gs f s v) (shape.Diagonal offsets) globals order m) (sym (c.in_ok-from_slice-2.ensures ∙ c.as_slice-2.ensures))
    (diagonal_describes m offsets globals f s v c.requires.rows c.in_ok-found.ensures c.in_ok-values.ensures order))
