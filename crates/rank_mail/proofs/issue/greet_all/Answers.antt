use Rattle.std.proofs.Common.{◌≡◌, ◌<◌, ◌++◌, ◌∷◌, [], Some, length, slice_set, ap, ◌∙◌, arith}
use Rattle.std.proofs.lemmas.List.{get_or_read}
use Rattle.rank_mail.specs.Desks.{Desk, desk_at}
use Rattle.rank_mail.proofs.MeetLemmas.{issue_met, more_from_push, met_more, new_tie, unused_more}
use Rattle.rank_mail.proofs.issue.greet_all.Goals as goal

pub loop-other-init : goal.loop-other-init
loop-other-init g c =
    rw c.requires.1.1 (
      issue_met g.books c.args.rank c.args.ends.now.items c.requires.1.0.issue,
      record { ends_unused = c.requires.1.0.unused; peers_unused = λ k d h. absurd (omega (arith, h)) },
    )

pub add-requires : goal.add-requires
add-requires g c =
    let met = c.loop-other.invariant.0 in
    let within : c.loop-other.other < length c.loop-other.ends.items = (let e = met.count in let h = c.loop-other-test.true in omega (arith, e, h)) in
    let here : c.index_mut-end.result.now ≡ desk_at c.loop-other.ends.items c.loop-other.other =
    get_or_read c.loop-other.ends.items c.loop-other.other c.index_mut-end.result.now within c.index_mut-end.ensures.value _ in
    let size = ap (λ (d : Desk). length d.peers) here ∙ met.unmet c.loop-other.other (omega arith) c.loop-other-test.true in
    omega (arith, size, c.requires.0)

pub loop-other-preserved : goal.loop-other-preserved
loop-other-preserved g c =
    let met = c.loop-other.invariant.0 in
    let k = c.args.rank in
    let m = c.loop-other.other in
    let ends = c.loop-other.ends.items in
    let within : m < length ends = (let e = met.count in let h = c.loop-other-test.true in omega (arith, e, h)) in
    let here : c.index_mut-end.result.now ≡ desk_at ends m = get_or_read ends m c.index_mut-end.result.now within c.index_mut-end.ensures.value _ in
    let size = met.unmet m (omega arith) c.loop-other-test.true in
    let held : c.add.new.self.peers ≡ (desk_at ends m).peers ++ Some c.in_ok-theirs.theirs ∷ [] =
    ap (λ (d : Desk). d.peers) c.in_ok-add.ensures ∙ ap (λ (d : Desk). d.peers ++ Some c.in_ok-theirs.theirs ∷ []) here in
    let more = more_from_push k m (Some c.in_ok-theirs.theirs) ends c.add.new.self within size (ap (λ (d : Desk). d.rank) c.in_ok-add.ensures ∙ ap (λ (d : Desk). d.rank) here) held in
    let new = c.in_ok-theirs.ensures in
    rw c.in_ok-push.ensures.items (
      met_more g.books k m (Some c.in_ok-theirs.theirs) (Some c.in_ok-theirs.mine) ends (slice_set ends m c.add.new.self) c.loop-other.peers.items
          c.loop-other-test.true met more (new_tie g.books m k c.in_ok-theirs.theirs c.in_ok-theirs.mine new),
      unused_more m (Some c.in_ok-theirs.theirs) (Some c.in_ok-theirs.mine) ends c.loop-other.peers.items c.add.new.self within held
          (record { posted = new.there.none_posted; taken = new.back.none_taken })
          (record { posted = new.back.none_posted; taken = new.there.none_taken })
          c.loop-other.invariant.1,
    )
