use Rattle.std.proofs.Common.{◌≡◌, ℕ, ◌≤◌, true, nat_le, [], length, refl, sym, ap, ◌∙◌, subst, arith}
use Rattle.std.proofs.lemmas.Option.{get_or_from_slice_get}
use Rattle.std.proofs.lemmas.Bool.{false≢true}
use Rattle.rank_scripts.specs.Scripts.{named}
use Rattle.rank_model.specs.Products.{scripts}
use Rattle.rank_node.specs.Waits.{letters_from}
use Rattle.rank_node.proofs.ListLemmas.{below_next, some_length}
use Rattle.rank_node.proofs.PositionLemmas.{named_own, named_request, enough, lacks, has_all_from}
use Rattle.rank_node.proofs.settle.has_requests.Goals.{else-from-rank-via-then-from-rank+else-is_empty, else-from-rank-via-else-from-rank}
use Rattle.rank_node.proofs.settle.has_requests.Goals as goal

pub returns-then-is_empty : goal.returns-then-is_empty
returns-then-is_empty g c =
    let r = c.args.rank in
    let q = c.loop-from.from in
    let read : letters_from c.args.given.now q ≡ c.at.result.now = get_or_from_slice_get c.args.given.now q c.at.result.now [] c.at.ensures in
    let none : length (letters_from c.args.given.now q) ≡ 0 = ap length (read ∙ c.if-is_empty.ensures.0 refl) in
    let one = named_request g.run r q c.requires.0 c.if-from-rank.true in
    lacks g.run r 0 q (letters_from c.args.given.now) (omega arith) (omega arith)

pub loop-from-preserved : goal.loop-from-preserved
loop-from-preserved g c =
    let r = c.args.rank in
    let q = c.loop-from.from in
    let P : ℕ → Type 0 = λ k. nat_le (named (scripts g.run) r 0 k) (length (letters_from c.args.given.now k)) ≡ true in
    below_next P q c.loop-from.invariant
    (elim c.else-from-rank.branch [
      | else-from-rank-via-then-from-rank+else-is_empty w ↦
          let read : letters_from c.args.given.now q ≡ w.at.result.now = get_or_from_slice_get c.args.given.now q w.at.result.now [] w.at.ensures in
          let some : 1 ≤ length (letters_from c.args.given.now q) = rw read (some_length w.at.result.now (λ e. false≢true (w.if-is_empty.ensures.1 e))) in
          enough (named (scripts g.run) r 0 q) 1 _ (named_request g.run r q c.requires.0 w.if-from-rank.true) some
      | else-from-rank-via-else-from-rank w ↦ subst P (sym w.if-from-rank.false) (enough (named (scripts g.run) r 0 r) 0 _ (named_own g.run r 0 c.requires.0) (omega arith))
    ])

pub returns : goal.returns
returns g c = has_all_from g.run c.args.rank 0 (letters_from c.args.given.now) (λ q below. c.loop-from.invariant q (omega arith))
