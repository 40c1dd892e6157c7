use Rattle.std.proofs.Common.{arith}
use Rattle.format_model.proofs.BitsLemmas.{bits_after_zeros}
use Rattle.formats.proofs.digits.bits.Goals as goal

pub returns : goal.returns
returns c = omega (arith, bits_after_zeros 64 c.args.number c.ranges.number.fits)
