-- The tokens so far, followed by those of the rest, are those of the text, and no others are.
use Rattle.std.proofs.Common.{◌≡◌, ◌++◌, List, length}
use Rattle.job_text.specs.declared.tokens.Token.{Token}
use Rattle.job_text.specs.Tokens.{Lexes}
use Rattle.job_text.proofs.lexer.lex.Given as goal

abbrev pub invariant-loop-start : goal.invariant-loop-start
invariant-loop-start l = record {
  found : (ts : List Token) → Lexes l.rest ts → Lexes l.fn.text (l.tokens.items ++ ts);
  only : (ts : List Token) → Lexes l.fn.text ts → (more : List Token) × (ts ≡ l.tokens.items ++ more) × Lexes l.rest more;
}

abbrev pub decreases-loop-start : goal.decreases-loop-start
decreases-loop-start l = length l.rest
