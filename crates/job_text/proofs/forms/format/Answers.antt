use Rattle.std.proofs.Common.{option_map, ap, ◌∙◌, length, ◌-◌, take, drop}
use Rattle.std.specs.Prelude.{option_and_then}
use Rattle.std.proofs.lemmas.Result.{err_from_is_err_and}
use Rattle.bern_base.specs.declared.raw.Form.TheVariants as form
use Rattle.job_text.specs.WordReading.{name_of, levels_of, format_of}
use Rattle.job_text.proofs.ShapeLemmas.{front_one}
use Rattle.job_text.proofs.StopLemmas.{gives_err}
use Rattle.job_text.proofs.forms.format.Goals as goal

pub returns-in_err-name-in-len1-up : goal.returns-in_err-name-in-len1-up
unfolding format_of
returns-in_err-name-in-len1-up c =
    let is = front_one c.args.words.now c.name-item.result c.bytes.result.now c.in-len1-up.len_at_least c.name-item.is c.bytes.ensures in
    gives_err (λ form. form) c.from_residual.result c.in_err-name-in-len1-up.field-0.0 (name_of c.bytes.result.now) (format_of c.args.words.now) (err_from_is_err_and c.from_residual.result c.from_residual.ensures.1) c.in_err-name-in-len1-up.ensures
    (λ none. ap format_of is ∙ ap (option_and_then (λ n. option_map (form.Format n) (levels_of (take (length c.args.words.now - 1) (drop 1 c.args.words.now))))) none)

pub returns-in_err-shape-in-len1-up : goal.returns-in_err-shape-in-len1-up
unfolding format_of
returns-in_err-shape-in-len1-up c =
    let is = front_one c.args.words.now c.name-item.result c.bytes.result.now c.in-len1-up.len_at_least c.name-item.is c.bytes.ensures in
    gives_err (λ form. form) c.from_residual-in_err-shape-in-len1-up.result c.in_err-shape-in-len1-up.field-0.0 (levels_of (take (length c.args.words.now - 1) (drop 1 c.args.words.now))) (format_of c.args.words.now) (err_from_is_err_and c.from_residual-in_err-shape-in-len1-up.result c.from_residual-in_err-shape-in-len1-up.ensures.1) c.in_err-shape-in-len1-up.ensures
    (λ none. ap format_of is ∙ ap (option_and_then (λ n. option_map (form.Format n) (levels_of (take (length c.args.words.now - 1) (drop 1 c.args.words.now))))) c.in_ok-name-in-len1-up.ensures ∙ ap (option_map (form.Format c.in_ok-name-in-len1-up.name)) none)

pub returns-in_ok-shape-in-len1-up : goal.returns-in_ok-shape-in-len1-up
unfolding format_of
returns-in_ok-shape-in-len1-up c =
    let is = front_one c.args.words.now c.name-item.result c.bytes.result.now c.in-len1-up.len_at_least c.name-item.is c.bytes.ensures in
    ap format_of is ∙ ap (option_and_then (λ n. option_map (form.Format n) (levels_of (take (length c.args.words.now - 1) (drop 1 c.args.words.now))))) c.in_ok-name-in-len1-up.ensures ∙ ap (option_map (form.Format c.in_ok-name-in-len1-up.name)) c.in_ok-shape-in-len1-up.ensures
