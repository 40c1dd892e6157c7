use Rattle.std.proofs.Common.{sym, drop}
use Rattle.std.proofs.lemmas.List.{take_rest, drop-drop}
use Rattle.mm_profile.specs.Lines.{is_line_feed}
use Rattle.mm_text.proofs.PieceLemmas.{splits_at, list_any-None}
use Rattle.mm_text.proofs.lines.split_line.Goals as goal

pub returns-in-Some : goal.returns-in-Some
returns-in-Some c =
    let s = splits_at c.args.piece.now c.in-Some.end (sym c.in-Some.ensures) in
    rw (c.split_at.ensures.front, c.split_at.ensures.back)
    (rw (take_rest (drop c.in-Some.end c.args.piece.now) 1, drop-drop 1 c.in-Some.end c.args.piece.now) (s.front, s.is))

pub returns-in-None : goal.returns-in-None
returns-in-None c = list_any-None is_line_feed c.args.piece.now (sym c.in-None.ensures)
