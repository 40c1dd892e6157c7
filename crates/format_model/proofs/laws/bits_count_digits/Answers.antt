use Rattle.format_model.proofs.DigitLemmas.{bits-count_digits}
use Rattle.format_model.proofs.laws.bits_count_digits.Goals as goal

pub returns : goal.returns
returns c = bits-count_digits
