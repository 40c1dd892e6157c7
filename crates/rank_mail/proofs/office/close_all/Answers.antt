use Rattle.std.proofs.Common.{◌≡◌, ◌+◌, ◌*◌, List, length, ap, ◌∙◌, subst, arith}
use Rattle.std.proofs.lemmas.List.{length_push}
use Rattle.rank_mail.specs.Desks.{Desk}
use Rattle.rank_mail.proofs.ListLemmas.{square-next}
use Rattle.rank_mail.proofs.CarryLemmas.{IsClosing, closing_step}
use Rattle.rank_mail.proofs.office.close_all.Goals as goal

pub loop-last-smaller : goal.loop-last-smaller
loop-last-smaller g c =
    let size = ap length c.in-Some.ensures.items ∙ length_push c.pop.new.self.items c.in-Some.last in
    let left = c.part.ensures.parted.issue.count in
    omega (arith, size, left)

pub loop-last-preserved : goal.loop-last-preserved
loop-last-preserved g c =
    let k = length c.pop.new.self.items in
    let Now : List Desk → Type 0 = λ es. IsClosing g.books c.args.ends.items c.args.closed.now.items es c.loop-last.closed.items in
    let size : length c.loop-last.ends.items ≡ k + 1 = ap length c.in-Some.ensures.items ∙ length_push c.pop.new.self.items c.in-Some.last in
    let square : length c.loop-last.ends.items * length c.loop-last.ends.items ≡ k * k + 2 * k + 1 = ap (λ n. n * n) size ∙ square-next k in
    let left : length c.part.new.ends.items * length c.part.new.ends.items ≡ k * k = ap (λ n. n * n) c.part.ensures.parted.issue.count in
    let room = c.loop-last.invariant.1 in
    let more = c.part.ensures.len in
    let same = c.part.ensures.capacity in (
      closing_step g.books c.args.ends.items c.args.closed.now.items c.pop.new.self.items c.in-Some.last c.loop-last.closed.items c.part.new.ends.items c.part.new.closed.items
          (subst Now c.in-Some.ensures.items c.loop-last.invariant.0) c.part.ensures.parted,
      omega (arith, square, left, room, more, same),
    )
