use Rattle.std.proofs.Common.{get_or, ◌∙◌, subst, sym}
use Rattle.bern_base.specs.Affine.{IsWithin, IsInBox, span_of}
use Rattle.bern_base.proofs.AffineLemmas.{four_kept, four_within, in_box, least_by, least_value}
use Rattle.bern_base.proofs.affine.Affine.least_point.Goals as goal

pub new-requires : goal.new-requires
new-requires c = λ k d below.
    subst (λ xs. IsWithin 4194303 (get_or xs k d)) (sym (four_kept c.least_end.ensures.within c.least_end-2.ensures.within c.least_end-3.ensures.within c.least_end-4.ensures.within))
    (four_within c.least_end.ensures.within c.least_end-2.ensures.within c.least_end-3.ensures.within c.least_end-4.ensures.within k d below)

pub returns-clause-inside : goal.returns-clause-inside
returns-clause-inside c =
    subst (IsInBox c.args.spans.now) (sym (c.new.ensures ∙ four_kept c.least_end.ensures.within c.least_end-2.ensures.within c.least_end-3.ensures.within c.least_end-4.ensures.within))
    (in_box c.args.spans.now c.least_end.ensures.inside c.least_end-2.ensures.inside c.least_end-3.ensures.inside c.least_end-4.ensures.inside)

pub returns-clause-least : goal.returns-clause-least
returns-clause-least c = λ values box.
    rw (c.new.ensures ∙ four_kept c.least_end.ensures.within c.least_end-2.ensures.within c.least_end-3.ensures.within c.least_end-4.ensures.within)
    (least_value c.args.self.now c.args.spans.now c.least_end.result c.least_end-2.result c.least_end-3.result c.least_end-4.result
    (least_by (span_of c.args.spans.now 0) c.least_end.result c.factor.ensures.within c.factor.ensures.factor c.least_end.ensures.least)
    (least_by (span_of c.args.spans.now 1) c.least_end-2.result c.factor-2.ensures.within c.factor-2.ensures.factor c.least_end-2.ensures.least)
    (least_by (span_of c.args.spans.now 2) c.least_end-3.result c.factor-3.ensures.within c.factor-3.ensures.factor c.least_end-3.ensures.least)
    (least_by (span_of c.args.spans.now 3) c.least_end-4.result c.factor-4.ensures.within c.factor-4.ensures.factor c.least_end-4.ensures.least)
    values box)
