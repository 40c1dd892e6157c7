use Rattle.std.proofs.Common.{arith, rules, subst}
use Rattle.std.specs.List.{All}
use Rattle.bern_base.specs.declared.raw.RawExpr.{out-RawExpr}
use Rattle.job_rules.specs.Looked.{IsReadableRef, reads_of, product_reads, factor_reads}
use Rattle.job_rules.proofs.ListLemmas.{all_at}
use Rattle.job_rules.proofs.LookedLemmas.{reads_of-pos}
use Rattle.job_rules.proofs.expressions.+checked.Goals as goal

pub checked_factor-checked_ref-requires : goal.checked_factor-checked_ref-requires
checked_factor-checked_ref-requires t c = (rw c.in-Read.is at c.requires) 0 c.in-Read.reference (omega arith)

pub checked_product-checked_factor-requires : goal.checked_product-checked_factor-requires
checked_product-checked_factor-requires t c =
    (search rules, all_at IsReadableRef (factor_reads (reads_of c.args.levels)) c.args.product.now.factors _ _ _ c.factor-item.is c.as_slice-factor-items.ensures c.loop-factor-test.true c.requires)

pub checked_expr-checked_product-requires : goal.checked_expr-checked_product-requires
checked_expr-checked_product-requires t c =
    let all = subst (All IsReadableRef) (reads_of-pos c.args.levels c.args.expr.now (omega arith)) c.requires in
    (search rules, all_at IsReadableRef (product_reads (reads_of _)) (out-RawExpr c.args.expr.now).sums _ _ _ c.product-item.is c.as_slice-product-items.ensures c.loop-product-test.true all)
