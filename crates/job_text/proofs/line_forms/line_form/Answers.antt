use Rattle.std.proofs.Common.{◌≡◌, Err, length, drop, sym, ap, ◌∙◌}
use Rattle.std.specs.Prelude.{codes}
use Rattle.std.proofs.lemmas.Slice.Eq.{starts_is}
use Rattle.std.proofs.lemmas.Bool.Decides.{Decides-eqb}
use Rattle.std.proofs.lemmas.Bool.{false≢true}
use Rattle.job_text.specs.declared.stop.Stop.TheVariants as stop
use Rattle.job_text.specs.Lines.{words}
use Rattle.job_text.specs.Forms.{IsForm}
use Rattle.job_text.specs.WordReading.{form_of}
use Rattle.job_text.proofs.StopLemmas.{gives_ok, gives_none}
use Rattle.job_text.proofs.FormLemmas.{sound_form, no_form_of_nest, no_form_of_words, word_form_is}
use Rattle.job_text.proofs.line_forms.line_form.Goals as goal

pub returns-in-Err-clause-none : goal.returns-in-Err-clause-none
returns-in-Err-clause-none c = λ of any is.
    let text = c.args.text.now in
    let begins = (starts_is Decides-eqb text (codes "doany") c.starts_with.result c.starts_with.ensures.value).0 c.if-starts_with.true in
    let stopped : c.in-Err.stop ≡ stop.NoForm = cc in
    no_form_of_nest text (drop (length (codes "doany")) text) begins (c.in-Err.ensures.none (ap Err stopped)) any is

pub returns-else-starts_with-clause-found : goal.returns-else-starts_with-clause-found
returns-else-starts_with-clause-found c =
    let text = c.args.text.now in
    gives_ok c.word_line.result (form_of (words text)) (λ f. IsForm f text) c.word_line.ensures (λ f is. word_form_is text f (sound_form (words text) f is))

pub returns-else-starts_with-clause-none : goal.returns-else-starts_with-clause-none
returns-else-starts_with-clause-none c = λ of any is.
    let text = c.args.text.now in
    let none = gives_none c.word_line.result (form_of (words text)) c.word_line.ensures of in
    let other = (starts_is Decides-eqb text (codes "doany") c.starts_with.result c.starts_with.ensures.value).1 in
    no_form_of_words text c.requires (λ tail e. false≢true (sym c.if-starts_with.false ∙ other tail e)) none any is
