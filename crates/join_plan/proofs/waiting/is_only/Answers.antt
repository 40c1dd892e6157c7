use Rattle.std.proofs.Common.{◌≡◌, ◌∙◌, ◌&&◌, ◌==◌, length, ap}
use Rattle.term_model.specs.Plans.{waiting}
use Rattle.join_plan.proofs.WaitingLemmas.{only_one}
use Rattle.join_plan.proofs.waiting.is_only.Goals as goal

pub returns : goal.returns
returns c = λ vs marks.
    ap (λ n. n == 1 && c.waiting-waiting.result.first == c.args.var) (c.waiting-waiting.ensures.count vs marks)
    ∙ ap (λ w. length (waiting vs c.args.form.now) == 1 && w == c.args.var) (c.waiting-waiting.ensures.first vs marks)
    ∙ only_one c.args.var (waiting vs c.args.form.now)
