use Rattle.std.proofs.Common.{ℕ, sym, ◌≡◌, ◌+◌, subst, arith}
use Rattle.rank_node.specs.Positions.{from_requests}
use Rattle.rank_node.specs.Waits.{letters_from}
use Rattle.rank_node.proofs.PositionLemmas.{goes_request, request_own}
use Rattle.rank_node.proofs.settle.at_request.Goals.{else-from-ranks-via-then-from-ranks+else-from-rank, else-from-ranks-via-else-from-ranks}
use Rattle.rank_node.proofs.settle.at_request.Goals as goal

pub returns-then-from-ranks-3 : goal.returns-then-from-ranks-3
returns-then-from-ranks-3 g c =
    let own : c.args.from ≡ c.args.rank = elim c.else-from-ranks.branch [
      | else-from-ranks-via-then-from-ranks+else-from-rank w ↦ w.if-from-rank.false
      | else-from-ranks-via-else-from-ranks w ↦ let past = w.if-from-ranks.false in absurd (omega arith)
    ] in
    let P : ℕ → Type 0 = λ k. from_requests g.run c.args.rank k ≡ from_requests g.run c.args.rank (k + 1) in
    goes_request g.run c.args.rank c.args.from (c.args.from + 1) (letters_from c.args.given.now) (omega arith) (λ e. omega arith) (subst P (sym own) (request_own g.run c.args.rank c.requires.rank))
