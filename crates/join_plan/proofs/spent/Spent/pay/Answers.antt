use Rattle.std.proofs.Common.{◌≡◌, ◌*◌, ◌+◌, ◌≤◌, ap, arith}
use Rattle.join_plan.proofs.PayLemmas.{paid}
use Rattle.join_plan.proofs.spent.Spent.pay.Goals as goal

pub overflow_mul-many : goal.overflow_mul-many
overflow_mul-many c = record { fits = omega (arith, (paid c.args.left c.args.self.many c.args.self.cost 0 c.from.result 0 c.requires.left c.requires.spent (omega arith) (omega (arith, c.from.ensures, c.requires.keeps)) (omega arith)).many) }

pub overflow_mul-offered : goal.overflow_mul-offered
overflow_mul-offered c = record { fits = omega (arith, (paid c.args.left c.args.self.many c.args.self.cost c.from-2.result 0 0 c.requires.left c.requires.spent (omega (arith, c.from-2.ensures, c.requires.offers)) (omega arith) (omega arith)).offered) }

pub overflow_mul-searched : goal.overflow_mul-searched
overflow_mul-searched c = record { fits = omega (arith, (paid c.args.left c.args.self.many c.args.self.cost 0 c.from.result c.from-3.result c.requires.left c.requires.spent (omega arith) (omega (arith, c.from.ensures, c.requires.keeps)) (omega (arith, c.from-3.ensures, c.requires.weight))).searched) }

pub overflow_add-result : goal.overflow_add-result
overflow_add-result c =
    let all = paid c.args.left c.args.self.many c.args.self.cost c.from-2.result c.from.result c.from-3.result c.requires.left c.requires.spent
    (omega (arith, c.from-2.ensures, c.requires.offers)) (omega (arith, c.from.ensures, c.requires.keeps)) (omega (arith, c.from-3.ensures, c.requires.weight)) in
    record { fits = omega (arith, all.offered, all.searched) }

pub overflow_add-result-2 : goal.overflow_add-result-2
overflow_add-result-2 c =
    let all = paid c.args.left c.args.self.many c.args.self.cost c.from-2.result c.from.result c.from-3.result c.requires.left c.requires.spent
    (omega (arith, c.from-2.ensures, c.requires.offers)) (omega (arith, c.from.ensures, c.requires.keeps)) (omega (arith, c.from-3.ensures, c.requires.weight)) in
    record { fits = omega (arith, all.total) }

pub returns-clause-spent : goal.returns-clause-spent
returns-clause-spent c =
    let all = paid c.args.left c.args.self.many c.args.self.cost c.from-2.result c.from.result c.from-3.result c.requires.left c.requires.spent
    (omega (arith, c.from-2.ensures, c.requires.offers)) (omega (arith, c.from.ensures, c.requires.keeps)) (omega (arith, c.from-3.ensures, c.requires.weight)) in
    all.spent
