use Rattle.mm_text.proofs.LinesLemmas.{unwrap_or-position}
use Rattle.mm_profile.specs.Lines.{is_blank}
use Rattle.mm_text.proofs.word_list.word_len.Goals as goal

pub returns-clause-length : goal.returns-clause-length
returns-clause-length c = rw (c.unwrap_or.ensures, c.blank_at.ensures) (unwrap_or-position is_blank c.args.line.now)
