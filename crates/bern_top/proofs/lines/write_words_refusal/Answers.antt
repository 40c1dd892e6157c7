use Rattle.bern_top.proofs.lines.write_words_refusal.Goals as goal

pub returns-clause-writes : goal.returns-clause-writes
returns-clause-writes g c = rw (c.as_bytes.ensures.value, c.as_bytes-2.ensures.value, c.as_bytes-3.ensures.value, c.name-name.ensures) at c.write_pieces.ensures.writes
