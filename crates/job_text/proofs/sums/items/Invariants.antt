-- The items so far, followed by what is read from here on, are what is read from the start.
use Rattle.std.proofs.Common.{◌≡◌, ◌-◌, ◌≤◌, length}
use Rattle.bern_base.specs.declared.limits.TheConstants.{MOST_ITEMS}
use Rattle.job_text.specs.NestReading.{with_front, list_at, item_at, sign_at, items_at}
use Rattle.job_text.proofs.sums.items.Given as goal

abbrev pub invariant-loop : goal.invariant-loop
invariant-loop l = record {
  carries : with_front l.items (list_at item_at sign_at (MOST_ITEMS - l.counter) l.minus l.rest) ≡ items_at l.fn.minus l.fn.tokens;
  within : length l.rest ≤ length l.fn.tokens;
}
