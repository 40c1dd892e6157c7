use Rattle.std.proofs.Common.{◌≡◌, ◌<◌, ℕ, sym, ◌∙◌, arith}
use Rattle.turn_node.specs.NodeStates.{rank_in}
use Rattle.turn_world.proofs.WorldLemmas as l
use Rattle.turn_world.proofs.world.post_letter.Goals as goal

below_at : {n k m : ℕ} → k ≡ m → k < n → m < n
below_at e h = omega arith

pub push-requires-clause-to : goal.push-requires-clause-to
push-requires-clause-to g c =
    let receives = l.want_post (rank_in g.run c.args.node.now).todo c.in-Post.to (sym c.in-Post.is ∙ c.want.ensures) in
    c.requires.1.1.1.1 c.in-Post.to (below_at receives (l.post_below g.P.Part.stands g.run c.args.rank c.args.node.now c.requires.1.0 c.requires.1.1.0))

pub returns-in-Ok-push-clause-boxes : goal.returns-in-Ok-push-clause-boxes
returns-in-Ok-push-clause-boxes g c =
    let receives = l.want_post (rank_in g.run c.args.node.now).todo c.in-Post.to (sym c.in-Post.is ∙ c.want.ensures) in
    record {
      to = c.in-Post.to;
      letter = c.in-Ok.letter;
      receives = receives;
      within = below_at receives (l.post_below g.P.Part.stands g.run c.args.rank c.args.node.now c.requires.1.0 c.requires.1.1.0);
      first = c.in-Ok.ensures.rest;
      boxes = c.in-Ok-push.ensures.ok;
    }
