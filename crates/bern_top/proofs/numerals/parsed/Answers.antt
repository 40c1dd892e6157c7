use Rattle.std.proofs.Common.{sym, ◌∙◌, subst, decimal}
use Rattle.std.proofs.lemmas.Fmt.{parse-decimal, IsAscii-decimal}
use Rattle.std.proofs.lemmas.Str.{IsUtf8-from_ascii}
use Rattle.std.specs.Str.{IsUtf8}
use Rattle.bern_top.proofs.numerals.parsed.Goals as goal

pub returns-in-Ok-parse : goal.returns-in-Ok-parse
returns-in-Ok-parse c = λ n fits spelled. let read = parse-decimal 64 n _ _ fits fits (c.in-Ok.ensures.cases.0 ∙ spelled) c.parse.ensures.value.0 in cc

pub returns-in-Err-parse : goal.returns-in-Err-parse
returns-in-Err-parse c = λ n fits spelled. absurd (cc (parse-decimal 64 n _ _ fits fits (c.in-Ok.ensures.cases.0 ∙ spelled) c.parse.ensures.value.0))

pub returns-in-Err : goal.returns-in-Err
returns-in-Err c = λ n fits spelled. absurd (c.in-Err.ensures.cases.0 (subst IsUtf8 (sym spelled) (IsUtf8-from_ascii (decimal n) (IsAscii-decimal n fits))))
