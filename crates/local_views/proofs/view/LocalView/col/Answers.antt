use Rattle.std.proofs.Common.{◌<◌, subst, arith}
use Rattle.bern_base.specs.declared.axes.Axis.TheVariants as axis
use Rattle.local_views.specs.Views.{IsOwnBy}
use Rattle.local_views.proofs.view.LocalView.col.Goals as goal

pub overflow_cast-col : goal.overflow_cast-col
overflow_cast-col g c =
    let s = c.args.self.now in
    let low : c.args.col < s.owned = subst (λ a. IsOwnBy a axis.Col s.owned c.args.col) c.in-Col.is c.requires in omega (arith, low, s.few)
