use Rattle.std.proofs.Common.{sym, ap, subst}
use Rattle.rank_scripts.specs.Scripts.{IsNextOf}
use Rattle.rank_mail.specs.Lanes.{Lane}
use Rattle.rank_mail.proofs.BoxLemmas.{pushes}
use Rattle.rank_mail.proofs.sides.Outgoing.post.Goals as goal

pub push_as-requires-clause-rule : goal.push_as-requires-clause-rule
push_as-requires-clause-rule g c n =
    let IsNext : Lane → Type 0 = λ lane. IsNextOf lane.route.book lane.letters c.args.letter in
    pushes n _ _ _ (ap (λ v. v.role) c.self.invariant.1) (subst IsNext (sym c.self.view_is) c.requires)
