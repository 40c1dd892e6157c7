use Rattle.std.proofs.Common.{◌+◌, ◌≤◌, length, arith}
use Rattle.job_files.specs.Answers.{Stands, TakesAtMost}
use Rattle.job_files.proofs.ReadingLemmas.{takes_more}
use Rattle.job_files.proofs.ShelfLemmas.{if_some_weaker}
use Rattle.job_files.proofs.reading.read_on.Goals as goal

pub returns-then-is_err-clause-takes : goal.returns-then-is_err-clause-takes
returns-then-is_err-clause-takes g c =
    let now = g.F.Shelf.left c.file.shelf in
    let next = g.F.Shelf.left c.read_piece.new.shelf in
    let few : length c.file.bytes + c.in-Ok.count ≤ c.args.limit + 1 = omega (arith, c.in-Ok.ensures.bound, c.min-most.ensures, c.len.ensures, c.len-in-file.ensures, c.file-test.true) in
    if_some_weaker (g.F.Shelf.files c.args.shelf.now)
    (λ fs. Stands fs c.args.name.now c.file.bytes now)
    (λ fs. TakesAtMost (c.args.limit + 1) fs c.args.name.now next)
    (λ fs stands. takes_more (c.args.limit + 1) c.in-Ok.count fs c.args.name.now c.file.bytes c.read_piece.new.piece now next stands c.in-Ok.ensures.bytes.0 few)
    c.file.invariant.told
