use Rattle.std.proofs.Common.{◌≡◌, true, false, [], sym, ◌∙◌, arith}
use Rattle.std.specs.List.{list_any}
use Rattle.std.proofs.lemmas.List.Quantifiers.{position-Some}
use Rattle.job_files.specs.FileOrder.{IsForUse}
use Rattle.job_files.specs.RowOrders.{is_order_of}
use Rattle.job_files.specs.declared.uses.Use.{Use}
use Rattle.job_files.specs.declared.uses.Use.TheVariants as by
use Rattle.job_files.proofs.ArrayLemmas.{zip_len}
use Rattle.job_files.proofs.OrderLemmas.{lists_order, none_there, zip_at}
use Rattle.job_files.proofs.orders.listed_rows.Goals as goal

pub at-requires : goal.at-requires
at-requires c =
    let none : Use = by.Order [] 0 in
    let found = position-Some (is_order_of c.args.file.now c.args.rows) c.args.uses.now c.in-Some.number none (sym c.order_use.ensures ∙ c.in-Some.is) in
    omega (arith, found.0, zip_len IsForUse c.args.uses.now c.args.loaded.now c.requires.loaded)

pub listed_by-requires-clause-matrix : goal.listed_by-requires-clause-matrix
listed_by-requires-clause-matrix c =
    let none : Use = by.Order [] 0 in
    let found = position-Some (is_order_of c.args.file.now c.args.rows) c.args.uses.now c.in-Some.number none (sym c.order_use.ensures ∙ c.in-Some.is) in
    (zip_at IsForUse c.args.uses.now c.args.loaded.now c.in-Some.number none c.at.result.now c.requires.loaded found.0 c.at.ensures).matrix

pub listed_by-requires-clause-fits : goal.listed_by-requires-clause-fits
listed_by-requires-clause-fits c =
    let none : Use = by.Order [] 0 in
    let found = position-Some (is_order_of c.args.file.now c.args.rows) c.args.uses.now c.in-Some.number none (sym c.order_use.ensures ∙ c.in-Some.is) in
    lists_order c.args.uses.now c.args.loaded.now c.args.file.now c.args.rows c.in-Some.number none c.at.result.now c.requires.loaded found.0 found.1 c.at.ensures

pub unreachable-requires : goal.unreachable-requires
unreachable-requires c =
    let gone : list_any (is_order_of c.args.file.now c.args.rows) c.args.uses.now ≡ false = none_there (is_order_of c.args.file.now c.args.rows) c.args.uses.now (sym c.order_use.ensures ∙ c.in-None.is) in
    let some : true ≡ false = sym c.requires.used ∙ gone in cc
