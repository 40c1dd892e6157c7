-- The answers for a matrix that is to give the order of the rows of a permute format.
use Rattle.std.specs.Prelude.{◌≡◌, ℕ, List, Some, None, Ok, Err}
use Rattle.std.specs.declared.result.Result.{Result}
use Rattle.bern_base.specs.Matrix.{values_of}
use Rattle.bern_base.specs.declared.matrix.Matrix.{Matrix}
use Rattle.formats.specs.FileRules.{listing_rule, order_in, order_rule}
use Rattle.formats.specs.declared.order.OrderError.{OrderError}
use Rattle.formats.specs.declared.order.OrderError.TheVariants as e

-- the order that is listed by the values of all positions, or rule F3; want of memory is free
abbrev pub IsListed : ℕ → List ℕ → Result (List ℕ) OrderError → Type 0
IsListed rows values (Ok order) = (listing_rule rows values ≡ None) × (order ≡ order_in values)
IsListed rows values (Err (e.Broken rule)) = listing_rule rows values ≡ Some rule
IsListed rows values (Err e.NoMemory) = Unit {0}

-- the order that a matrix lists, or the first rule that it breaks
abbrev pub IsOrder : ℕ → Matrix → Result (List ℕ) OrderError → Type 0
IsOrder rows m (Ok order) = (order_rule rows m ≡ None) × (order ≡ order_in (values_of m))
IsOrder rows m (Err (e.Broken rule)) = order_rule rows m ≡ Some rule
IsOrder rows m (Err e.NoMemory) = Unit {0}
