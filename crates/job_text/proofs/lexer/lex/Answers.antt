use Rattle.std.proofs.Common.{◌≡◌, ◌≢◌, Some, [], length, option_map, append-nil, sym, ap, ◌∙◌, subst}
use Rattle.std.proofs.lemmas.Bool.{eqb-true, eq-eqb, false≢true}
use Rattle.job_text.specs.Tokens.{Lexes, first_token}
use Rattle.job_text.specs.Reading.{seen}
use Rattle.job_text.proofs.TokenLemmas.{empty_is, lexes_none, found_more, only_more, after-shorter}
use Rattle.job_text.proofs.lexer.lex.Goals as goal

pub returns-then-is_empty-clause-found : goal.returns-then-is_empty-clause-found
returns-then-is_empty-clause-found c =
    let none : c.trimmed-start.result.now ≡ [] = empty_is _ (eqb-true _ _ (sym c.is_empty.ensures ∙ c.if-is_empty.true)) in
    subst (Lexes c.args.text.now) (append-nil c.loop-start.tokens.items) (c.loop-start.invariant.found [] (sym c.trimmed-start.ensures ∙ none))

pub returns-in-None-clause-none : goal.returns-in-None-clause-none
returns-in-None-clause-none c = λ of any h.
    let none = sym c.token.ensures ∙ ap (option_map seen) c.in-None.is in
    let left = c.loop-start.invariant.only any h in
    let some : length c.trimmed-start.result.now ≢ 0 = λ empty. absurd (false≢true (sym (c.if-is_empty.false) ∙ c.is_empty.ensures ∙ eq-eqb _ 0 empty)) in
    lexes_none c.loop-start.rest.now c.trimmed-start.result.now c.trimmed-start.ensures some none left.0 left.2

pub loop-start-smaller : goal.loop-start-smaller
loop-start-smaller c =
    let read : first_token c.trimmed-start.result.now ≡ Some (c.in-Some.token, c.in-Some.after.now) = sym c.token.ensures ∙ ap (option_map seen) c.in-Some.is in
    after-shorter c.loop-start.rest.now c.trimmed-start.result.now c.in-Some.after.now c.in-Some.token c.trimmed-start.ensures read

pub loop-start-preserved : goal.loop-start-preserved
loop-start-preserved c =
    let text = c.args.text.now in
    let so_far = c.loop-start.tokens.items in
    let rest = c.loop-start.rest.now in
    let items = c.in_ok-push-in-Some.ensures.items in
    let read : first_token c.trimmed-start.result.now ≡ Some (c.in-Some.token, c.in-Some.after.now) = sym c.token.ensures ∙ ap (option_map seen) c.in-Some.is in
    record {
      found = λ ts h. rw items (found_more text so_far rest c.trimmed-start.result.now c.in-Some.after.now c.in-Some.token c.trimmed-start.ensures read c.loop-start.invariant.found ts h);
      only = λ ts h. rw items (only_more text so_far rest c.trimmed-start.result.now c.in-Some.after.now c.in-Some.token c.trimmed-start.ensures read c.loop-start.invariant.only ts h);
    }
