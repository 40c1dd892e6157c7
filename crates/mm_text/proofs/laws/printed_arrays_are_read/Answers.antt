use Rattle.mm_text.proofs.PrintedArrayLemmas.{reads-printed-arrays}
use Rattle.mm_text.proofs.laws.printed_arrays_are_read.Goals as goal

pub returns : goal.returns
returns c = reads-printed-arrays
