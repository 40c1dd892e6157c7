use Rattle.std.proofs.Common.{List, filter, length, sym, ap, ◌∙◌}
use Rattle.bern_base.specs.declared.job.ArrayDecl.{ArrayDecl}
use Rattle.job_files.specs.FileOrder.{IsForUse}
use Rattle.job_files.specs.Uses.{array_matrices, has_file, spread}
use Rattle.job_files.proofs.ArrayLemmas.{zip_len}
use Rattle.job_files.proofs.arrays.array_files.Goals as goal

pub array_matrices-requires-clause-len : goal.array_matrices-requires-clause-len
array_matrices-requires-clause-len c = zip_len IsForUse c.args.uses.now c.args.loaded c.requires.loaded

pub array_matrices-requires-clause-own : goal.array_matrices-requires-clause-own
array_matrices-requires-clause-own c = c.requires.own ∙ ap (λ (as_ : List ArrayDecl). length (filter has_file as_)) (sym c.as_slice.ensures)

pub returns-clause-matrices : goal.returns-clause-matrices
returns-clause-matrices c = c.in_ok-matrices.ensures ∙ ap (λ xs. spread xs (array_matrices c.args.uses.now c.args.loaded)) c.as_slice.ensures
