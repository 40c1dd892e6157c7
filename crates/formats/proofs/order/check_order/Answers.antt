use Rattle.std.proofs.Common.{List, ℕ, length, ap, ◌∙◌}
use Rattle.formats.proofs.OrderLemmas.{values_long}
use Rattle.formats.proofs.order.check_order.Goals as goal

pub listed_order-requires : goal.listed_order-requires
listed_order-requires c = ap (λ (vs : List ℕ). length vs) (c.as_slice.ensures ∙ c.in-Ok-values.ensures) ∙ values_long c.args.rows c.args.matrix.now c.in-Ok.ensures
