use Rattle.std.proofs.Common.{◌≡◌, ◌*◌, ap, ◌∙◌, arith}
use Rattle.local_views.specs.Views.{Cut, cut_of, own_cols}
use Rattle.local_views.proofs.ViewLemmas.{columns_of, element_fits}
use Rattle.local_views.proofs.view.LocalView.local_element.Goals as goal

pub overflow_mul-result : goal.overflow_mul-result
overflow_mul-result g c =
    let s = c.args.self.now in
    let ts = g.P.Placement.triples s.place in
    let cut : Cut = cut_of s.axis s.cols ts s.rank in
    let own : s.own ≡ cut.own = s.own_is ∙ ap (own_cols s.axis s.cols) s.owned_is in
    let h = columns_of s.axis s.cols ts s.rank s.fits.side s.cut (omega (arith, s.few, s.owned_is)) (omega arith) in
    let all = element_fits cut h c.args.element c.in-Some.row c.in-Some-local_col.col (omega arith) (omega arith) c.in-Some.ensures.some c.in-Some-local_col.ensures.some in
    let same : c.in-Some.row * s.own ≡ c.in-Some.row * cut.own = ap (λ n. c.in-Some.row * n) own in omega (arith, all, same)

pub overflow_add-result : goal.overflow_add-result
overflow_add-result g c =
    let s = c.args.self.now in
    let ts = g.P.Placement.triples s.place in
    let cut : Cut = cut_of s.axis s.cols ts s.rank in
    let own : s.own ≡ cut.own = s.own_is ∙ ap (own_cols s.axis s.cols) s.owned_is in
    let h = columns_of s.axis s.cols ts s.rank s.fits.side s.cut (omega (arith, s.few, s.owned_is)) (omega arith) in
    let all = element_fits cut h c.args.element c.in-Some.row c.in-Some-local_col.col (omega arith) (omega arith) c.in-Some.ensures.some c.in-Some-local_col.ensures.some in
    let same : c.in-Some.row * s.own ≡ c.in-Some.row * cut.own = ap (λ n. c.in-Some.row * n) own in omega (arith, all, same)
