use Rattle.std.proofs.Common.{refl, ◌∙◌, subst}
use Rattle.format_model.specs.Trees.{axis_at}
use Rattle.local_views.specs.Views.{Cut, IsElsewhere, IsLocal, cut_of}
use Rattle.local_views.proofs.ViewLemmas.{moved_found, moved_none}
use Rattle.local_views.proofs.view.LocalViewAccess.find.Goals as goal

pub returns-in-Some-clause-found : goal.returns-in-Some-clause-found
returns-in-Some-clause-found g c =
    let s = c.args.self.now in
    let t = g.S.Access.tree s.store in
    let cut : Cut = cut_of s.axis s.cols (g.P.Placement.triples s.place) s.rank in
    c.find.ensures.found
    ∙ moved_found cut (axis_at t c.args.level) c.args.index c.in-Some.local (t.children c.args.level c.args.parent) s.cut
    (subst (λ a. IsLocal cut a c.args.index c.in-Some.local) c.axis.ensures c.in-Some.ensures.some) (s.fits.inside c.args.level c.args.parent c.requires)

pub returns-in-None-clause-found : goal.returns-in-None-clause-found
returns-in-None-clause-found g c =
    let s = c.args.self.now in
    let t = g.S.Access.tree s.store in
    let cut : Cut = cut_of s.axis s.cols (g.P.Placement.triples s.place) s.rank in
    moved_none cut (axis_at t c.args.level) c.args.index (t.children c.args.level c.args.parent)
    (subst (λ a. IsElsewhere cut a c.args.index) c.axis.ensures (c.in-None.ensures.none refl)) (s.fits.inside c.args.level c.args.parent c.requires)
