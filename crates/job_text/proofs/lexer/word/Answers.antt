use Rattle.std.proofs.Common.{◌≡◌, ◌-◌, ℕ, Option, Some, None, List, length, length-drop, take, take_all, drop, option_map, refl, sym, ap, subst, ◌∙◌, arith}
use Rattle.job_text.specs.declared.tokens.Token.{Token}
use Rattle.job_text.specs.Tokens.{word_end, word_token, word_at}
use Rattle.job_text.specs.Reading.{seen}
use Rattle.job_text.proofs.lexer.word.Goals as goal

word_to : (text : List ℕ) (end : ℕ) (read : Option Token) → end ≡ word_end text → read ≡ word_token (take end text) → option_map (λ token. (token, drop end text)) read ≡ word_at text
word_to text end read is found =
    ap (option_map (λ token. (token, drop end text))) found
    ∙ subst (λ n. option_map (λ token. (token, drop n text)) (word_token (take n text)) ≡ word_at text) (sym is) refl

whole_rest : (text : List ℕ) (end : ℕ) → take (length text - end) (drop end text) ≡ drop end text
whole_rest text end = take_all (length text - end) (drop end text) (omega (arith, length-drop end text))

pub returns-in_err-token : goal.returns-in_err-token
returns-in_err-token c =
    ap (option_map seen) c.from_residual.ensures ∙ word_to c.args.text.now c.word_end-end.result None c.word_end-end.ensures c.in_err-token.ensures

pub returns : goal.returns
returns c =
    let end = c.word_end-end.result in
    ap (λ (rest : List ℕ). Some (c.in_ok-token.token, rest)) (whole_rest c.args.text.now end) ∙ word_to c.args.text.now end (Some c.in_ok-token.token) c.word_end-end.ensures c.in_ok-token.ensures
