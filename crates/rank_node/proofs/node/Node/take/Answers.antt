use Rattle.std.proofs.Common.{length, refl, sym, ap, ◌∙◌}
use Rattle.std.proofs.lemmas.List.{length-set}
use Rattle.rank_node.proofs.NodeKept.{took_moved, took_kept, fronts_more, requests_more}
use Rattle.rank_node.proofs.node.Node.take.Goals as goal

pub settled-self-requires : goal.settled-self-requires
settled-self-requires g c =
    let n = c.args.self.now in
    let is = c.requires.0 in
    let new = c.in-Ok.ensures.ok in (
      record {
        rank = is.of_run.rank;
        ranks = is.of_run.ranks;
        long = ap length new ∙ length-set n.given c.args.from _ ∙ is.boxes ∙ sym is.of_run.ranks;
        fronts = fronts_more g.run n.rank c.args.from n.given c.offer_at.new.self c.args.letter is.fronts is.boxes c.requires.1.0 c.requires.1.1 new;
      },
      (is.asked, requests_more g.run n c.args.from c.offer_at.new.self c.args.letter is c.requires.1.0 new),
    )

pub returns-in-Ok-clause-ok : goal.returns-in-Ok-clause-ok
returns-in-Ok-clause-ok g c = record {
  node = took_kept g.run c.args.self.now c.args.from c.offer_at.new.self c.args.letter c.settled-self.result c.requires.0 c.requires.1.0 c.requires.1.1 c.in-Ok.ensures.ok c.settled-self.ensures;
  rank = refl;
  moved = took_moved g.run c.args.self.now c.args.from c.offer_at.new.self c.args.letter c.settled-self.result c.requires.0 c.requires.1.0 c.in-Ok.ensures.ok c.settled-self.ensures;
}
