use Rattle.std.proofs.Common.{◌≡◌, ◌++◌, ◌∷◌, ◌+◌, [], List, length, slice_set, sym, ap, ◌∙◌, subst, refl, arith}
use Rattle.std.proofs.lemmas.List.{length_push}
use Rattle.rank_mail.specs.Lanes.{Haul}
use Rattle.rank_mail.specs.Desks.{Desk}
use Rattle.rank_mail.proofs.ListLemmas.{push_here, none_left}
use Rattle.rank_mail.proofs.CarryLemmas.{IsParting, parting_start, parting_mates, parting_step, parting_end, turn}
use Rattle.rank_mail.proofs.office.part.Goals as goal

pub remove-requires : goal.remove-requires
remove-requires g c =
    let ends = c.args.ends.now.items in
    let size : length c.args.last.peers ≡ length ends + 1 =
    ap (λ (d : Desk). length d.peers) (sym (push_here ends c.args.last (length ends) _ refl)) ∙ c.requires.1.0.size (length ends) (omega arith) in
    omega (arith, size)

pub loop-theirs-init : goal.loop-theirs-init
loop-theirs-init g c =
    let held : c.args.last.peers ≡ c.into_peers-peers.result.items ++ c.remove.result ∷ [] =
    c.remove.ensures.peers ∙ ap (λ xs. xs ++ c.remove.result ∷ []) (sym c.into_peers-peers.ensures) in
    let part = parting_start g.books (length c.args.ends.now.items) c.args.ends.now.items c.args.last c.args.closed.now.items c.into_peers-peers.result.items c.remove.result c.requires.1.0 held in
    let met = part.met in
    let first = c.requires.1.0 in
    let count : length c.into_peers-peers.result.items ≡ length c.args.ends.now.items =
    (let e = sym (length_push c.into_peers-peers.result.items c.remove.result) ∙ ap length (sym held)
    ∙ ap (λ (d : Desk). length d.peers) (sym (push_here c.args.ends.now.items c.args.last (length c.args.ends.now.items) _ refl))
    ∙ first.size (length c.args.ends.now.items) (omega arith) in omega (arith, e)) in
    (part, omega (arith, count), refl)

pub close_both-requires-clause-mates : goal.close_both-requires-clause-mates
close_both-requires-clause-mates g c =
    let now = turn g.books (length c.args.ends.now.items) c.len.result c.args.ends.now.items c.args.last c.args.closed.now.items c.remove-mine.result c.in-Some.theirs c.loop-theirs.ends.items c.loop-theirs.peers.items c.pop.new.self.items c.loop-theirs.closed.items
    c.index_mut-end.result.now c.remove-mine.new.self (c.len.ensures ∙ c.pop.new.self.ok.0) c.loop-theirs.invariant.0 c.in-Some.ensures.items c.index_mut-end.ensures.value c.remove-mine.ensures.rank c.remove-mine.ensures.peers in
    parting_mates g.books (length c.args.ends.now.items) c.len.result c.args.ends.now.items c.args.last c.args.closed.now.items c.remove-mine.result c.in-Some.theirs _ c.loop-theirs.ends.items c.pop.new.self.items c.loop-theirs.closed.items
    now.place now.part now.more

pub loop-theirs-preserved : goal.loop-theirs-preserved
loop-theirs-preserved g c =
    let k = length c.args.ends.now.items in
    let left = slice_set c.loop-theirs.ends.items c.len.result c.remove-mine.new.self in
    let now = turn g.books (length c.args.ends.now.items) c.len.result c.args.ends.now.items c.args.last c.args.closed.now.items c.remove-mine.result c.in-Some.theirs c.loop-theirs.ends.items c.loop-theirs.peers.items c.pop.new.self.items c.loop-theirs.closed.items
    c.index_mut-end.result.now c.remove-mine.new.self (c.len.ensures ∙ c.pop.new.self.ok.0) c.loop-theirs.invariant.0 c.in-Some.ensures.items c.index_mut-end.ensures.value c.remove-mine.ensures.rank c.remove-mine.ensures.peers in
    let After : List Haul → Type 0 = λ hs. IsParting g.books k c.args.ends.now.items c.args.last c.args.closed.now.items left c.pop.new.self.items hs in
    let size = ap length c.in-Some.ensures.items ∙ length_push c.pop.new.self.items c.in-Some.theirs in (
      subst After (sym c.close_both.ensures.kept)
          (parting_step g.books k c.len.result c.args.ends.now.items c.args.last c.args.closed.now.items c.remove-mine.result c.in-Some.theirs left c.loop-theirs.ends.items c.pop.new.self.items c.loop-theirs.closed.items
          now.place now.part now.more c.close_both.ensures.in_order),
      (let room = c.loop-theirs.invariant.1 in let grown = c.close_both.ensures.len in omega (arith, room, grown, size)),
      c.close_both.ensures.capacity ∙ c.loop-theirs.invariant.2,
    )

pub returns-clause-parted : goal.returns-clause-parted
returns-clause-parted g c =
    parting_end g.books (length c.args.ends.now.items) c.args.ends.now.items c.args.last c.args.closed.now.items c.loop-theirs.ends.items c.loop-theirs.peers.items c.loop-theirs.closed.items
    (none_left c.loop-theirs.peers.items _ c.loop-theirs.peers.ok.0 c.in_default.ensures.cases.0) c.loop-theirs.invariant.0
