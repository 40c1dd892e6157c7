-- The bytes so far are digits, and the number is theirs.
use Rattle.std.proofs.Common.{◌≡◌, true, take}
use Rattle.std.specs.List.{list_all}
use Rattle.mm_profile.specs.Numbers.{is_digit, natural}
use Rattle.mm_text.specs.Naturals.{StandsFor}
use Rattle.mm_text.proofs.numerals.long_natural.Given as goal

abbrev pub invariant-loop-byte : goal.invariant-loop-byte
invariant-loop-byte l = record {
  digits : list_all is_digit (take l.byte-index l.word) ≡ true;
  number : StandsFor l.number (natural (take l.byte-index l.word));
}
