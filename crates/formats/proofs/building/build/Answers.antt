use Rattle.bern_base.specs.declared.shape.Shape.TheVariants as shape
use Rattle.formats.proofs.BuildLemmas.{dense_matrix, dense_vector, described, described_diagonals, described_order, diagonal_part, permuted_part}
use Rattle.formats.proofs.building.build.Goals as goal

pub dense-requires : goal.dense-requires
dense-requires c = record { can = dense_vector c.args.format.now.shape c.args.part.now.globals c.args.order.now c.args.part.now.matrix c.in-DenseOne.is c.requires }

pub dense-requires-in-DenseDense : goal.dense-requires-in-DenseDense
dense-requires-in-DenseDense c =
    record { can = dense_matrix c.args.format.now.shape c.args.part.now.globals c.args.order.now c.args.part.now.matrix c.in-DenseDense.outer c.in-DenseDense.is c.requires }

pub returns-in-DenseOne-clause-describes : goal.returns-in-DenseOne-clause-describes
returns-in-DenseOne-clause-describes c =
    described c.args.format.now.shape shape.DenseOne c.args.part.now.globals c.args.order.now c.args.part.now.matrix c.dense.result c.in-DenseOne.is c.dense.ensures.describes

pub returns-in-DenseDense-clause-describes : goal.returns-in-DenseDense-clause-describes
returns-in-DenseDense-clause-describes c =
    described c.args.format.now.shape (shape.DenseDense c.in-DenseDense.outer) c.args.part.now.globals c.args.order.now c.args.part.now.matrix c.dense-in-DenseDense.result c.in-DenseDense.is c.dense-in-DenseDense.ensures.describes

pub returns-in-ListOne-clause-describes : goal.returns-in-ListOne-clause-describes
returns-in-ListOne-clause-describes c =
    described c.args.format.now.shape shape.ListOne c.args.part.now.globals c.args.order.now c.args.part.now.matrix c.list.result c.in-ListOne.is c.list.ensures.describes

pub returns-in-ListTwo-clause-describes : goal.returns-in-ListTwo-clause-describes
returns-in-ListTwo-clause-describes c =
    described c.args.format.now.shape shape.ListTwo c.args.part.now.globals c.args.order.now c.args.part.now.matrix c.list-in-ListTwo.result c.in-ListTwo.is c.list-in-ListTwo.ensures.describes

pub returns-in-PackedOne-clause-describes : goal.returns-in-PackedOne-clause-describes
returns-in-PackedOne-clause-describes c =
    described c.args.format.now.shape shape.PackedOne c.args.part.now.globals c.args.order.now c.args.part.now.matrix c.packed.result c.in-PackedOne.is c.packed.ensures.describes

pub returns-in-DensePacked-clause-describes : goal.returns-in-DensePacked-clause-describes
returns-in-DensePacked-clause-describes c =
    described c.args.format.now.shape (shape.DensePacked c.in-DensePacked.outer) c.args.part.now.globals c.args.order.now c.args.part.now.matrix c.packed-in-DensePacked.result c.in-DensePacked.is c.packed-in-DensePacked.ensures.describes

pub returns-in-PackedPacked-clause-describes : goal.returns-in-PackedPacked-clause-describes
returns-in-PackedPacked-clause-describes c =
    described c.args.format.now.shape (shape.PackedPacked c.in-PackedPacked.outer) c.args.part.now.globals c.args.order.now c.args.part.now.matrix c.packed-in-PackedPacked.result c.in-PackedPacked.is c.packed-in-PackedPacked.ensures.describes

pub diagonal-requires : goal.diagonal-requires
diagonal-requires c = record { can = diagonal_part c.args.format.now.shape c.in-Diagonal.offsets c.args.part.now.globals c.args.order.now c.args.part.now.matrix c.in-Diagonal.is c.requires }

pub permuted-requires : goal.permuted-requires
permuted-requires c = record { can = permuted_part c.args.format.now.shape c.in-Permute.field-0 c.args.part.now.globals c.args.order.now c.args.part.now.matrix c.in-Permute.is c.requires }

pub returns-in-Jagged-clause-describes : goal.returns-in-Jagged-clause-describes
returns-in-Jagged-clause-describes c =
    described c.args.format.now.shape shape.Jagged c.args.part.now.globals c.args.order.now c.args.part.now.matrix c.jagged.result c.in-Jagged.is c.jagged.ensures.describes

pub returns-in-Diagonal-clause-describes : goal.returns-in-Diagonal-clause-describes
returns-in-Diagonal-clause-describes c =
    described_diagonals c.args.format.now.shape c.in-Diagonal.offsets c.args.part.now.globals c.args.order.now c.args.part.now.matrix c.diagonal.result c.in-Diagonal.is c.diagonal.ensures.describes

pub returns-in-Permute-clause-describes : goal.returns-in-Permute-clause-describes
returns-in-Permute-clause-describes c =
    described_order c.args.format.now.shape c.in-Permute.field-0 c.args.part.now.globals c.args.order.now c.args.part.now.matrix c.permuted.result c.in-Permute.is c.permuted.ensures.describes
