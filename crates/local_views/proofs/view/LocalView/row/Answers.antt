use Rattle.std.proofs.Common.{◌<◌, subst, arith}
use Rattle.bern_base.specs.declared.axes.Axis.TheVariants as axis
use Rattle.local_views.specs.Views.{IsOwnBy}
use Rattle.local_views.proofs.view.LocalView.row.Goals as goal

pub overflow_cast-row : goal.overflow_cast-row
overflow_cast-row g c =
    let s = c.args.self.now in
    let low : c.args.row < s.owned = subst (λ a. IsOwnBy a axis.Row s.owned c.args.row) c.in-Row.is c.requires in omega (arith, low, s.few)
