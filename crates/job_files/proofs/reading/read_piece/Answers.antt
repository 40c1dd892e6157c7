use Rattle.std.proofs.Common.{◌≡◌, ◌<◌, length, ◌∙◌, sym, subst}
use Rattle.std.proofs.lemmas.List.{length-take-le}
use Rattle.job_files.proofs.ReadingLemmas.{consumes_front}
use Rattle.job_files.proofs.reading.read_piece.Goals as goal

pub returns-clause-bytes : goal.returns-clause-bytes
returns-clause-bytes g c =
    let size : length c.read.new.buf ≡ c.args.most = c.read.auto.buf ∙ length-take-le c.args.most c.args.piece.now c.requires.room in
    consumes_front (g.F.Shelf.left c.args.shelf.now) (g.F.Shelf.left c.read.new.self) c.read.result c.read.new.buf _ c.read.ensures.bound (subst (λ n. 0 < n) (sym size) c.requires.some) c.read.ensures.bytes
