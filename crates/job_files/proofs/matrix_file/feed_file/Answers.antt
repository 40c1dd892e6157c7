use Rattle.std.proofs.Common.{◌≡◌, ℕ, ◌+◌, ◌≤◌, List, length, subst, arith}
use Rattle.bern_base.specs.declared.limits.TheConstants.{MOST_FILE_BYTES}
use Rattle.mm_profile.specs.Profile.{mm}
use Rattle.mm_text.specs.Feeds.{StandsForBytes}
use Rattle.job_files.specs.Answers.{IsOf, LoadsMatrix, Stands, TakesAtMost}
use Rattle.job_files.proofs.ShelfLemmas.{if_some_weaker}
use Rattle.job_files.proofs.LoadingLemmas.{past_limit}
use Rattle.job_files.proofs.ReadingLemmas.{takes_more}
use Rattle.job_files.proofs.matrix_file.feed_file.Goals as goal

pub returns-clause-told : goal.returns-clause-told
returns-clause-told g c =
    if_some_weaker (g.F.Shelf.files c.args.shelf.now)
    (λ fs. (bytes : List ℕ) × Stands fs c.args.name.now bytes (g.F.Shelf.left c.file.shelf) × StandsForBytes c.file.feed bytes × (length bytes + c.file.left ≡ MOST_FILE_BYTES + 1))
    (λ fs. LoadsMatrix fs c.args.name.now c.finished-2.result)
    (λ fs told. past_limit fs c.args.name.now told.0 (g.F.Shelf.left c.file.shelf) c.file.left c.file.feed c.finished-2.result told.1 told.2 told.3 (omega (arith, c.file-test.false))
    (subst (λ n. (bs : List ℕ) → StandsForBytes c.file.feed bs → IsOf n (mm bs) c.finished-2.result) c.as_bytes-2.ensures c.finished-2.ensures.is))
    c.file.invariant.told

pub returns-in-Err-feed_piece-clause-takes : goal.returns-in-Err-feed_piece-clause-takes
returns-in-Err-feed_piece-clause-takes g c =
    let now = g.F.Shelf.left c.file.shelf in
    let next = g.F.Shelf.left c.read_piece.new.shelf in
    let few : c.in-Ok.count ≤ c.file.left = omega (arith, c.in-Ok.ensures.bound, c.min.ensures) in
    if_some_weaker (g.F.Shelf.files c.args.shelf.now)
    (λ fs. (bytes : List ℕ) × Stands fs c.args.name.now bytes now × StandsForBytes c.file.feed bytes × (length bytes + c.file.left ≡ MOST_FILE_BYTES + 1))
    (λ fs. TakesAtMost (MOST_FILE_BYTES + 1) fs c.args.name.now next)
    (λ fs told. takes_more (MOST_FILE_BYTES + 1) c.in-Ok.count fs c.args.name.now told.0 c.read_piece.new.piece now next told.1 c.in-Ok.ensures.bytes.0 (omega (arith, told.3, few)))
    c.file.invariant.told
