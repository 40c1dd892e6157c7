-- What an entry line counts for, as the reader hands it on.
use Rattle.std.specs.Prelude.{ℕ, ◌^◌, Bool, ◌&&◌, nat_lt, List, [], ◌∷◌, Result, Ok, Err}
use Rattle.std.specs.List.{list_all}
use Rattle.bern_base.specs.declared.refusal.Rule.{Rule}
use Rattle.bern_base.specs.declared.matrix.Entry.{Entry}
use Rattle.mm_text.specs.declared.entry_line.Counted.{Counted}
use Rattle.mm_text.specs.declared.entry_line.Counted.TheVariants.{One, Two}

abbrev pub counted_list : Counted → List Entry
counted_list (One e) = e ∷ []
counted_list (Two e f) = e ∷ f ∷ []

abbrev pub listed : Result Counted Rule → Result (List Entry) Rule
listed (Ok counted) = Ok (counted_list counted)
listed (Err rule) = Err rule

-- it lies in the matrix, and its value is one
abbrev pub is_inside : ℕ → ℕ → Entry → Bool
is_inside rows cols e = nat_lt e.row rows && nat_lt e.col cols && nat_lt e.value (2 ^ 64)

abbrev pub are_inside : ℕ → ℕ → List Entry → Bool
are_inside rows cols counted = list_all (is_inside rows cols) counted
