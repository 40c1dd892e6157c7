use Rattle.std.proofs.Common.{◌≡◌, ℕ, ◌+◌, sym, subst, arith}
use Rattle.turn_node.specs.Positions.{from_requests}
use Rattle.turn_node.specs.Progresses.{given_of}
use Rattle.turn_node.proofs.PositionLemmas.{goes_request, request_own}
use Rattle.turn_node.proofs.progress.Progress.at_request.Goals.{else-from-ranks-via-then-from-ranks+else-from-self, else-from-ranks-via-else-from-ranks}
use Rattle.turn_node.proofs.progress.Progress.at_request.Goals as goal

pub returns-then-from-ranks-3 : goal.returns-then-from-ranks-3
returns-then-from-ranks-3 g c =
    let n = c.args.self.now in
    let long = c.requires.asked_long in
    elim c.else-from-ranks.branch [
      | else-from-ranks-via-then-from-ranks+else-from-self w ↦
          let P : ℕ → Type 0 = λ k. from_requests g.run n.rank k ≡ from_requests g.run n.rank (k + 1) in
          goes_request g.run n.rank c.args.from (c.args.from + 1) (given_of g.run n) (omega (arith, c.len-ranks.ensures, c.if-from-ranks-3.true)) (λ e. let own = w.if-from-self.false in omega arith)
          (subst P (sym w.if-from-self.false) (request_own g.run n.rank c.requires.rank))
      | else-from-ranks-via-else-from-ranks w ↦ absurd (let past = w.if-from-ranks.false in let inside = c.if-from-ranks-2.true in omega arith)
    ]
