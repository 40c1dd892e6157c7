-- Sums of numbers and multiples of loop variables: their constant, their coefficients, and their least and greatest value over a box.
use Rattle.std.specs.Prelude.{ℕ, ◌^◌, List, [], ◌∷◌, ◌++◌, Option, Some, None, Bool, true, ◌&&◌, ◌==◌, if◌then◌else◌, nat_le, ℤ, pos, ◌+ℤ◌, ◌-ℤ◌, ◌*ℤ◌, int_lt, unsigned_abs, slice_index_or, map, length, ◌<◌, ◌≤◌}
use Rattle.std.specs.List.{fold, list_any, list_all, All}
use Rattle.std.specs.Ordering.{int_eq}
use Rattle.bern_base.specs.Affine.{AffineForm}
use Rattle.bern_base.specs.declared.limits.TheConstants.{MOST_COEFFICIENT, MOST_CONSTANT, MOST_ITEMS}
use Rattle.job_rules.specs.declared.names.Named.TheVariants as named
use Rattle.job_rules.specs.declared.items.Item.{Item}
use Rattle.job_rules.specs.declared.items.Meaning.{Meaning}
use Rattle.job_rules.specs.declared.items.Meaning.TheVariants as meaning
use Rattle.job_rules.specs.declared.ranges.Range.{Range}

abbrev pub Sum : Type 0
Sum = List Item

-- sums of few and small items, so that nothing that is made of them passes 2^107
abbrev pub item_limit : Meaning → ℕ
item_limit (meaning.Name (named.Extent e)) = 2 ^ 64
item_limit other = 2 ^ 32

pub record IsSmall (sum : Sum) : Type 0 where
  pub few : length sum ≤ MOST_ITEMS
  pub small : All (λ item. unsigned_abs item.number < item_limit item.meaning) sum

abbrev pub IsSmallRange : Range → Type 0
IsSmallRange range = (unsigned_abs range.lo < 2 ^ 67) × (unsigned_abs range.hi < 2 ^ 67)

-- the variable of an item, if it is a multiple of one
abbrev pub variable_of : Meaning → Option ℕ
variable_of (meaning.Name (named.Variable v)) = Some v
variable_of other = None

-- an item as a part of the constant, and of the coefficient of a variable
abbrev pub constant_part : Item → ℤ
constant_part item = elim (variable_of item.meaning) [ None ↦ item.number | Some w ↦ pos 0 ]

abbrev pub coefficient_part : ℕ → Item → ℤ
coefficient_part v item = elim (variable_of item.meaning) [ None ↦ pos 0 | Some w ↦ if w == v then item.number else pos 0 ]

-- the sum of all numbers, and of all multiples of a variable
unfoldable pub constant_of : Sum → ℤ
constant_of sum = fold (λ total item. total +ℤ constant_part item) (pos 0) sum

unfoldable pub coefficient_of : ℕ → Sum → ℤ
coefficient_of v sum = fold (λ total item. total +ℤ coefficient_part v item) (pos 0) sum

-- the coefficients are equal for the variable of this item
abbrev pub agrees_at : Sum → Sum → Item → Bool
agrees_at a b item = elim (variable_of item.meaning) [ None ↦ true | Some v ↦ int_eq (coefficient_of v a) (coefficient_of v b) ]

-- the constants are equal, and the coefficients of each variable that stands in either
unfoldable pub same_form : Sum → Sum → Bool
same_form a b = int_eq (constant_of a) (constant_of b) && list_all (agrees_at a b) a && list_all (agrees_at a b) b

-- the coefficients and the constant are within their limits
abbrev pub is_within_at : Sum → Item → Bool
is_within_at sum item = elim (variable_of item.meaning) [ None ↦ true | Some v ↦ nat_le (unsigned_abs (coefficient_of v sum)) MOST_COEFFICIENT ]

unfoldable pub is_within : Sum → Bool
is_within sum = nat_le (unsigned_abs (constant_of sum)) MOST_CONSTANT && list_all (is_within_at sum) sum

-- the variables of a sum, each once
abbrev pub add_variable : List ℕ → Item → List ℕ
add_variable vars item = elim (variable_of item.meaning) [ None ↦ vars | Some v ↦ if list_any (λ w. w == v) vars then vars else vars ++ v ∷ [] ]

unfoldable pub variables_in : Sum → List ℕ
variables_in sum = fold add_variable [] sum

-- the values of a variable; one that is not there has the value 0
abbrev pub range_at : List Range → ℕ → Range
range_at ranges v = slice_index_or ranges v (record { lo = pos 0; hi = pos 1 })

-- what a multiple of a variable is at least and at most: where it falls, the last value gives the least
abbrev pub least_part : ℤ → Range → ℤ
least_part k range = if int_lt k (pos 0) then k *ℤ (range.hi -ℤ pos 1) else k *ℤ range.lo

abbrev pub greatest_part : ℤ → Range → ℤ
greatest_part k range = if int_lt k (pos 0) then k *ℤ range.lo else k *ℤ (range.hi -ℤ pos 1)

-- the least and the greatest value of a sum over a box that is not empty
unfoldable pub least : List Range → Sum → ℤ
least ranges sum = fold (λ total v. total +ℤ least_part (coefficient_of v sum) (range_at ranges v)) (constant_of sum) (variables_in sum)

unfoldable pub greatest : List Range → Sum → ℤ
greatest ranges sum = fold (λ total v. total +ℤ greatest_part (coefficient_of v sum) (range_at ranges v)) (constant_of sum) (variables_in sum)

-- the constant and the coefficients, for variables that are among four
abbrev pub affine_of : Sum → AffineForm
affine_of sum = record { c0 = constant_of sum; coef = map (λ v. coefficient_of v sum) (0 ∷ 1 ∷ 2 ∷ 3 ∷ []) }

abbrev pub difference_of : Sum → Sum → AffineForm
difference_of left right = record {
  c0 = constant_of left -ℤ constant_of right;
  coef = map (λ v. coefficient_of v left -ℤ coefficient_of v right) (0 ∷ 1 ∷ 2 ∷ 3 ∷ []);
}
