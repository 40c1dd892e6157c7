use Rattle.std.proofs.Common.{◌≡◌, ℕ, List, take, take_all, sym, ap, ◌∙◌, subst, arith, length-set, refl, false}
use Rattle.std.specs.List.{range_with_len}
use Rattle.std.proofs.lemmas.List.{get_or_read}
use Rattle.std.specs.List.Sorted.{IsPermutation}
use Rattle.formats.specs.FileRules.{order_in}
use Rattle.formats.proofs.OrderLemmas.{AreListed, all_listed, listed_more, named_twice, no_number, numbers_more, order_more}
use Rattle.formats.proofs.order.listed_order.Goals as goal

pub returns-in_default-row_of-clause-order : goal.returns-in_default-row_of-clause-order
returns-in_default-row_of-clause-order c =
    no_number c.args.rows c.args.values.now c.positions.value-index c.value-item.result c.requires c.positions-test.true c.value-item.is (λ is. c.in_default-row_of.ensures.none refl is.0 is.1)

pub returns-then-index-clause-order : goal.returns-then-index-clause-order
returns-then-index-clause-order c =
    named_twice c.args.rows c.args.values.now c.positions.listed.items c.positions.value-index c.value-item.result c.in-Some.row c.positions-test.true c.value-item.is
    c.in-Some.ensures.some.0 c.in-Some.ensures.some.1 c.positions.invariant.listed (sym (get_or_read c.positions.listed.items c.in-Some.row c.index.result.now (omega (arith, c.positions.invariant.long, c.in-Some.ensures.some.1)) c.index.ensures false) ∙ c.if-index.true)

pub positions-preserved : goal.positions-preserved
positions-preserved c =
    let names = c.in-Some.ensures.some in record {
      long = length-set c.positions.listed.items c.in-Some.row _ ∙ c.positions.invariant.long;
      order = c.in-Ok-push.ensures.ok ∙ order_more c.args.values.now c.positions.order c.positions.value-index c.value-item.result c.in-Some.row c.positions-test.true c.value-item.is names.0 c.positions.invariant.order;
      numbers = numbers_more c.args.rows c.args.values.now c.positions.value-index c.value-item.result c.in-Some.row c.positions-test.true c.value-item.is names.0 names.1 c.positions.invariant.numbers;
      listed = listed_more c.args.rows c.args.values.now c.positions.listed.items c.positions.value-index c.value-item.result c.in-Some.row c.positions-test.true c.value-item.is names.0 names.1
          c.positions.invariant.long c.positions.invariant.listed
          (sym (get_or_read c.positions.listed.items c.in-Some.row c.index.result.now (omega (arith, c.positions.invariant.long, names.1)) c.index.ensures false) ∙ c.if-index.false);
    }

pub returns-clause-order : goal.returns-clause-order
returns-clause-order c =
    let values : List ℕ = c.args.values.now in
    let whole : take c.positions.value-index values ≡ values = take_all c.positions.value-index values c.positions-test.false in (
      (all_listed c.args.rows values c.positions.listed.items c.requires (λ k d below. c.positions.invariant.numbers k d (omega (arith, below, c.positions-test.false)))
          (subst (λ vs. AreListed c.args.rows vs c.positions.listed.items) whole c.positions.invariant.listed)).0,
      c.positions.invariant.order ∙ ap order_in whole,
    )

pub returns-clause-each_once : goal.returns-clause-each_once
returns-clause-each_once c =
    let values : List ℕ = c.args.values.now in
    let whole : take c.positions.value-index values ≡ values = take_all c.positions.value-index values c.positions-test.false in
    subst (λ rows. IsPermutation (range_with_len 0 c.args.rows) rows) (sym (c.positions.invariant.order ∙ ap order_in whole))
    (all_listed c.args.rows values c.positions.listed.items c.requires (λ k d below. c.positions.invariant.numbers k d (omega (arith, below, c.positions-test.false)))
    (subst (λ vs. AreListed c.args.rows vs c.positions.listed.items) whole c.positions.invariant.listed)).1
