use Rattle.std.proofs.Common.{◌≡◌, ℕ, ◌≤◌, true, nat_le, length, sym, subst, arith}
use Rattle.std.proofs.lemmas.Option.{get_or_from_slice_get}
use Rattle.rank_scripts.specs.Scripts.{named}
use Rattle.turn_model.specs.Runs.{scripts}
use Rattle.turn_node.specs.Progresses.{given_of, taken_at}
use Rattle.turn_node.proofs.MailLemmas.{below_next, enough, given_long, has_all_from, lacks, named_own, named_request}
use Rattle.turn_node.proofs.progress.Progress.has_requests.Goals.{else-from-self-via-then-from-self+else-at-eq0, else-from-self-via-else-from-self}
use Rattle.turn_node.proofs.progress.Progress.has_requests.Goals as goal

pub returns-then-at-eq0 : goal.returns-then-at-eq0
returns-then-at-eq0 g c =
    let n = c.args.self.now in
    let q = c.loop-from.from in
    let read : taken_at n.taken q ≡ c.at.result.now = get_or_from_slice_get n.taken q c.at.result.now 0 c.at.ensures in
    let none = c.if-at-eq0.true in
    let long = given_long g.run n.rank n.taken q (c.requires.within q) in
    let one = named_request g.run n.rank q c.requires.rank c.if-from-self.true in
    let ranks = c.requires.taken_long in
    lacks g.run n.rank 0 q (given_of g.run n) (omega (arith, c.len-from-end.ensures, c.loop-from-test.true)) (omega arith)

pub loop-from-preserved : goal.loop-from-preserved
loop-from-preserved g c =
    let n = c.args.self.now in
    let q = c.loop-from.from in
    let P : ℕ → Type 0 = λ k. nat_le (named (scripts g.run) n.rank 0 k) (length (given_of g.run n k)) ≡ true in
    below_next P q c.loop-from.invariant
    (elim c.else-from-self.branch [
      | else-from-self-via-then-from-self+else-at-eq0 w ↦
          let read : taken_at n.taken q ≡ w.at.result.now = get_or_from_slice_get n.taken q w.at.result.now 0 w.at.ensures in
          let long = given_long g.run n.rank n.taken q (c.requires.within q) in
          let some : 1 ≤ length (given_of g.run n q) = omega (arith, w.if-at-eq0.false) in
          enough (named (scripts g.run) n.rank 0 q) 1 _ (named_request g.run n.rank q c.requires.rank w.if-from-self.true) some
      | else-from-self-via-else-from-self w ↦ subst P (sym w.if-from-self.false) (enough (named (scripts g.run) n.rank 0 n.rank) 0 _ (named_own g.run n.rank 0 c.requires.rank) (omega arith))
    ])

pub returns : goal.returns
returns g c =
    let ranks = c.requires.taken_long in
    has_all_from g.run c.args.self.now.rank 0 (given_of g.run c.args.self.now) (λ q below. c.loop-from.invariant q (omega (arith, c.len-from-end.ensures, c.loop-from-test.false)))
