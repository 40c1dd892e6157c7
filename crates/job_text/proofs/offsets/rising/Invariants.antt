-- The offsets so far, followed by those of the words that are left, are those of all words.
use Rattle.std.proofs.Common.{◌≡◌, None, option_map, drop}
use Rattle.job_text.specs.WordReading.{onto, offsets_from}
use Rattle.job_text.proofs.offsets.rising.Given as goal

abbrev pub invariant-loop-word : goal.invariant-loop-word
invariant-loop-word l = option_map (onto l.offsets) (offsets_from l.last (drop l.word-index l.words)) ≡ offsets_from None l.words
