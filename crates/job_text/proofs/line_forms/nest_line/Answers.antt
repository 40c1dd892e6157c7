use Rattle.std.proofs.Common.{suc, List, length, sym, subst, arith}
use Rattle.job_text.specs.declared.tokens.Token.{Token}
use Rattle.job_text.specs.Tokens.{Lexes}
use Rattle.job_text.specs.Grammar.{IsNest}
use Rattle.job_text.specs.NestReading.{nest_at}
use Rattle.job_text.proofs.TokenLemmas.{lexes_one}
use Rattle.job_text.proofs.NestLemmas.{sound_nest, complete_nest}
use Rattle.job_text.proofs.StopLemmas.{gives_ok, gives_none}
use Rattle.job_text.proofs.line_forms.nest_line.Goals as goal

pub returns-clause-found : goal.returns-clause-found
returns-clause-found c =
    let tokens = c.as_slice.result.now in
    let same = c.as_slice.ensures.value in
    let n = suc (length tokens) in
    gives_ok c.nest.result (nest_at n tokens) (λ nest. (ts : List Token) × Lexes c.args.text.now ts × IsNest nest ts) (c.nest.ensures n (omega arith))
    (λ nest is. (tokens, subst (Lexes c.args.text.now) (sym same) c.in_ok-lex.ensures.found, sound_nest n tokens nest is))

pub returns-clause-none : goal.returns-clause-none
returns-clause-none c = λ of nest ts lexes is.
    let tokens = c.as_slice.result.now in
    let same = c.as_slice.ensures.value in
    let n = suc (length tokens) in
    let one = lexes_one c.args.text.now ts tokens lexes (subst (Lexes c.args.text.now) (sym same) c.in_ok-lex.ensures.found) in
    let read = complete_nest n tokens nest (subst (IsNest nest) one is) (omega arith) in
    let none = gives_none c.nest.result (nest_at n tokens) (c.nest.ensures n (omega arith)) of in
    cc
