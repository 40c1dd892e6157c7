use Rattle.std.proofs.Common.{rules, ap, ◌∙◌, length, unwrap_or, not}
use Rattle.std.proofs.lemmas.Iterator.{YieldsList-from_slice}
use Rattle.std.proofs.lemmas.Iterator.Search.{position_from_yields_List}
use Rattle.std.proofs.lemmas.List.Sums.{prefix_len-le-length}
use Rattle.std.specs.List.{position_or_len}
use Rattle.job_text.specs.Names.{is_name_byte}
use Rattle.job_text.proofs.PlaceLemmas.{place_or_end}
use Rattle.job_text.proofs.lexer.word_end.Goals as goal

pub returns : goal.returns
returns c =
    let text = c.args.text.now in
    let found = position_from_yields_List (λ byte. not (is_name_byte byte)) _ _ c.position.result c.position.ensures.ran (YieldsList-from_slice text cc) (λ x b q k. search rules) in
    c.unwrap_or.ensures ∙ ap (λ o. unwrap_or o (length text)) found ∙ place_or_end (position_or_len (λ byte. not (is_name_byte byte)) text) (length text) (prefix_len-le-length _ text)
