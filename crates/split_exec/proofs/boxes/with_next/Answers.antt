use Rattle.std.proofs.Common.{◌∙◌, ◌+◌, length, pos, ◌+ℤ◌, sym, ap, subst, arith}
use Rattle.std.proofs.lemmas.List.{length-set}
use Rattle.bern_base.specs.Affine.{IsInSpan, IsPoint, span_of}
use Rattle.job_model.specs.Points.{spans_of}
use Rattle.split_exec.specs.Boxes.{AreChosen, IsNearSpan}
use Rattle.split_exec.proofs.BoxLemmas.{few_values, near_bounds, near_value, one_chosen, point_set, span_is, value_in_span}
use Rattle.split_exec.proofs.boxes.with_next.Goals as goal

pub with_value-requires-clause-near : goal.with_value-requires-clause-near
with_value-requires-clause-near c = subst IsNearSpan (sym c.requires.span) (near_bounds c.args.nest.now.vars c.requires.nest c.args.depth)

pub with_value-requires-clause-k : goal.with_value-requires-clause-k
with_value-requires-clause-k c =
    let near : IsNearSpan c.args.span = subst IsNearSpan (sym c.requires.span) (near_bounds c.args.nest.now.vars c.requires.nest c.args.depth) in
    few_values c.args.span c.args.k near c.requires.k

pub returns-clause-four : goal.returns-clause-four
returns-clause-four c =
    let value = c.args.span.0 +ℤ pos c.args.k in
    ap length c.with_value.ensures ∙ length-set c.args.values c.args.depth value ∙ c.requires.four

pub returns-clause-near : goal.returns-clause-near
returns-clause-near c =
    let near : IsNearSpan c.args.span = subst IsNearSpan (sym c.requires.span) (near_bounds c.args.nest.now.vars c.requires.nest c.args.depth) in
    let value = c.args.span.0 +ℤ pos c.args.k in
    subst IsPoint (sym c.with_value.ensures) (point_set c.args.values c.args.depth value c.requires.near (near_value c.args.span c.args.k near c.requires.k))

pub returns-clause-chosen : goal.returns-clause-chosen
returns-clause-chosen c =
    let value = c.args.span.0 +ℤ pos c.args.k in
    let spans = spans_of c.args.nest.now.vars in
    let inside : IsInSpan (span_of spans c.args.depth) value = subst (λ s. IsInSpan s value) (c.requires.span ∙ sym (span_is c.args.nest.now.vars c.args.depth c.requires.depth)) (value_in_span c.args.span c.args.k c.requires.k) in
    subst (AreChosen spans (c.args.depth + 1)) (sym c.with_value.ensures) (one_chosen spans c.args.depth c.args.values value (omega (arith, c.requires.four, c.requires.depth)) c.requires.chosen inside)
