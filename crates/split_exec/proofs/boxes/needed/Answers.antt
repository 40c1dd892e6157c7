use Rattle.std.proofs.Common.{◌∙◌, sym}
use Rattle.split_exec.proofs.BoxLemmas.{hangs_0, hangs_1, hangs_2, hangs_3, no_factor}
use Rattle.split_exec.proofs.boxes.needed.Goals as goal

pub returns-then-has_factor-2-clause-hangs : goal.returns-then-has_factor-2-clause-hangs
returns-then-has_factor-2-clause-hangs c = hangs_3 c.args.form.now (no_factor c.args.form.now 3 (sym c.has_factor.ensures ∙ c.if-has_factor.false))

pub returns-then-has_factor-3-clause-hangs : goal.returns-then-has_factor-3-clause-hangs
returns-then-has_factor-3-clause-hangs c = hangs_2 c.args.form.now (no_factor c.args.form.now 3 (sym c.has_factor.ensures ∙ c.if-has_factor.false)) (no_factor c.args.form.now 2 (sym c.has_factor-2.ensures ∙ c.if-has_factor-2.false))

pub returns-then-has_factor-4-clause-hangs : goal.returns-then-has_factor-4-clause-hangs
returns-then-has_factor-4-clause-hangs c =
    hangs_1 c.args.form.now (no_factor c.args.form.now 3 (sym c.has_factor.ensures ∙ c.if-has_factor.false)) (no_factor c.args.form.now 2 (sym c.has_factor-2.ensures ∙ c.if-has_factor-2.false)) (no_factor c.args.form.now 1 (sym c.has_factor-3.ensures ∙ c.if-has_factor-3.false))

pub returns-clause-hangs : goal.returns-clause-hangs
returns-clause-hangs c =
    hangs_0 c.args.form.now (no_factor c.args.form.now 3 (sym c.has_factor.ensures ∙ c.if-has_factor.false)) (no_factor c.args.form.now 2 (sym c.has_factor-2.ensures ∙ c.if-has_factor-2.false)) (no_factor c.args.form.now 1 (sym c.has_factor-3.ensures ∙ c.if-has_factor-3.false))
    (no_factor c.args.form.now 0 (sym c.has_factor-4.ensures ∙ c.if-has_factor-4.false))
