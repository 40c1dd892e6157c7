use Rattle.std.proofs.Common.{option_map, ap, ◌∙◌}
use Rattle.std.proofs.lemmas.Result.{err_from_is_err_and}
use Rattle.bern_base.specs.declared.raw.Form.TheVariants as form
use Rattle.job_text.specs.WordReading.{name_of, print_of}
use Rattle.job_text.proofs.ShapeLemmas.{list_one}
use Rattle.job_text.proofs.StopLemmas.{gives_err}
use Rattle.job_text.proofs.forms.print.Goals as goal

pub returns-in_err-name-in-len1 : goal.returns-in_err-name-in-len1
unfolding print_of
returns-in_err-name-in-len1 c =
    let is = list_one c.args.words.now c.name-item.result c.bytes.result.now c.in-len1.len_at_least c.in-len1.len_below c.name-item.is c.bytes.ensures in
    gives_err (λ form. form) c.from_residual.result c.in_err-name-in-len1.field-0.0 (name_of c.bytes.result.now) (print_of c.args.words.now) (err_from_is_err_and c.from_residual.result c.from_residual.ensures.1) c.in_err-name-in-len1.ensures
    (λ none. ap print_of is ∙ ap (option_map form.Print) none)

pub returns-in_ok-name-in-len1 : goal.returns-in_ok-name-in-len1
unfolding print_of
returns-in_ok-name-in-len1 c =
    let is = list_one c.args.words.now c.name-item.result c.bytes.result.now c.in-len1.len_at_least c.in-len1.len_below c.name-item.is c.bytes.ensures in
    ap print_of is ∙ ap (option_map form.Print) c.in_ok-name-in-len1.ensures
