-- The bytes so far are digits, and the number is theirs.
use Rattle.std.proofs.Common.{◌≡◌, ◌^◌, ◌<◌, true, take}
use Rattle.std.specs.List.{list_all}
use Rattle.mm_profile.specs.Numbers.{is_digit, natural}
use Rattle.mm_text.proofs.numerals.few_digits.Given as goal

abbrev pub invariant-loop-at : goal.invariant-loop-at
invariant-loop-at l = record {
  digits : list_all is_digit (take l.at l.front) ≡ true;
  number : l.number ≡ natural (take l.at l.front);
  below : l.number < 10 ^ l.at;
}
