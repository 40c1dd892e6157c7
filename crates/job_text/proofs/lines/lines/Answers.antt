use Rattle.std.proofs.Common.{rules, ◌≡◌, ◌∙◌, subst}
use Rattle.std.specs.Prelude.{IfOk}
use Rattle.std.specs.Str.Lines.{strip_carriage_return}
use Rattle.std.proofs.lemmas.Result.{IfOk-at_ok}
use Rattle.std.proofs.lemmas.Iterator.{items_from_collect, YieldsList-from_map}
use Rattle.std.proofs.lemmas.Iterator.Consumers.{YieldsList-from_first}
use Rattle.bstr.specs.Text.{lines_of}
use Rattle.job_text.specs.Lines.{lines, without_feed}
use Rattle.job_text.proofs.LineLemmas.{lines_same}
use Rattle.job_text.proofs.lines.lines.Goals as goal

pub returns : goal.returns
returns c =
    IfOk-at_ok (λ found. found.items ≡ lines c.args.bytes.now) c.in_ok-lines.was
    (subst (λ all. IfOk c.collect.result (λ found. found.items ≡ all)) (lines_same c.args.bytes.now)
    (items_from_collect _ c.collect.ensures.ran (YieldsList-from_map _ (λ line. strip_carriage_return (without_feed line))
    (YieldsList-from_first (λ line. line.now) (λ rest. rest) (lines_of c.args.bytes.now) (c.map.ensures.source ∙ c.lines_with_terminator.ensures.value))
    c.map.ensures.closure (λ x r q k. search rules))))
