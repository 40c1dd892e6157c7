use Rattle.std.proofs.Common.{ap, ◌∙◌, sym}
use Rattle.std.proofs.lemmas.Bool.Decides.{Decides-int_eq}
use Rattle.std.specs.Cmp.Derive.{both_true}
use Rattle.std.specs.Cmp.Rules.{signed_items}
use Rattle.bern_base.specs.Affine.{AffineForm}
use Rattle.rank_product.proofs.ShapeLemmas.{and_first, and_second}
use Rattle.rank_product.proofs.shape.is_form.Goals as goal

pub returns : goal.returns
returns c =
    let a : AffineForm = c.args.form in
    let b : AffineForm = c.args.other in
    let constants = Decides-int_eq a.c0 b.c0 in
    let factors = signed_items a.coef b.coef in (
      λ t.
          let both = sym c.eq.ensures ∙ t in
          ap (λ n. record a { c0 = n }) (constants.0 (and_first _ _ both)) ∙ ap (λ ns. record b { coef = ns }) (factors.0 (and_second _ _ both)),
      λ same. c.eq.ensures ∙ both_true (constants.1 (ap (λ (f : AffineForm). f.c0) same)) (factors.1 (ap (λ (f : AffineForm). f.coef) same)),
    )
