use Rattle.std.proofs.Common.{refl, arith}
use Rattle.rank_node.proofs.NodeKept.{post_counts, posted_moved, posted_kept}
use Rattle.rank_node.proofs.node.Node.post.Goals as goal

pub overflow_add-tally : goal.overflow_add-tally
overflow_add-tally g c =
    let small = post_counts g.run c.args.self.now c.args.to c.args.values c.args.next c.at-tally.result.now c.requires.0 c.requires.1.0 c.requires.1.1 c.at-tally.ensures in
    let few = small.0 in
    omega arith

pub overflow_add-tally-2 : goal.overflow_add-tally-2
overflow_add-tally-2 g c =
    let small = post_counts g.run c.args.self.now c.args.to c.args.values c.args.next c.at-tally.result.now c.requires.0 c.requires.1.0 c.requires.1.1 c.at-tally.ensures in
    let few = small.1 in
    omega arith

pub returns : goal.returns
returns g c = record {
  node = posted_kept g.run c.args.self.now c.args.to c.args.values c.args.next c.settled-self.result c.at-tally.result.now c.set.new.self c.requires.0 c.requires.1.0 c.requires.1.1 c.at-tally.ensures c.set.ensures c.settled-self.ensures;
  rank = refl;
  moved = posted_moved g.run c.args.self.now c.args.to c.args.values c.args.next c.settled-self.result c.requires.0 c.requires.1.1 c.settled-self.ensures;
}
