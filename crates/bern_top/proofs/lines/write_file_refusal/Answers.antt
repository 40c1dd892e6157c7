use Rattle.std.proofs.Common.{◌++◌, codes}
use Rattle.bern_top.specs.Lines.{place_text}
use Rattle.bern_top.proofs.WritingLemmas.{writes_after, stops_before}
use Rattle.bern_top.proofs.lines.write_file_refusal.Goals as goal

pub returns-in-Ok-clause-writes : goal.returns-in-Ok-clause-writes
returns-in-Ok-clause-writes g c =
    writes_after (g.S.Sink.written c.args.err.now) (g.S.Sink.written c.write_pieces.new.sink) (g.S.Sink.written c.write_place.new.err)
    (g.S.Sink.faults c.args.err.now) (g.S.Sink.faults c.write_pieces.new.sink) (g.S.Sink.faults c.write_place.new.err)
    (codes "refused " ++ (c.args.file.now ++ codes ":")) (place_text c.args.line c.args.rule) c.write_place.result
    c.in-Ok.ensures.later (rw (c.as_bytes.ensures.value, c.as_bytes-2.ensures.value) at c.in-Ok.ensures.writes) c.write_place.ensures.writes

pub returns-in-Err-clause-writes : goal.returns-in-Err-clause-writes
returns-in-Err-clause-writes g c =
    stops_before (g.S.Sink.written c.args.err.now) (g.S.Sink.written c.write_pieces.new.sink) (g.S.Sink.faults c.args.err.now) (g.S.Sink.faults c.write_pieces.new.sink)
    (codes "refused " ++ (c.args.file.now ++ codes ":")) (place_text c.args.line c.args.rule)
    (rw (c.as_bytes.ensures.value, c.as_bytes-2.ensures.value) at c.in-Err.ensures.writes)
