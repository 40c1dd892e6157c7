-- Where the reader stands among the places that are due.
use Rattle.std.specs.Prelude.{◌≡◌, ℕ, ◌+◌, ◌-◌, Bool, true, ◌&&◌, nat_lt, List, ◌∷◌, ◌++◌, replicate, Ok, Err}
use Rattle.bern_base.specs.declared.refusal.Rule.{Rule}
use Rattle.mm_profile.specs.declared.sizes.Head.{Head}
use Rattle.mm_profile.specs.Places.{Place, Stated, column_from, columns}
use Rattle.mm_profile.specs.Lines.{words}
use Rattle.mm_profile.specs.Profile.{Numbered, entries, and_then}
use Rattle.mm_text.specs.Counts.{counted_list}
use Rattle.mm_text.specs.declared.entry_line.Counted.{Counted}
use Rattle.mm_text.specs.declared.due.Due.{Due}
use Rattle.mm_text.specs.declared.due.Due.TheVariants.{Lines, Listed}

-- the places from here on
abbrev pub due_list : Head → Due → List Place
due_list head (Lines count) = replicate count Stated
due_list head (Listed row col) = column_from head.rows row col ++ columns head (col + 1) (head.cols - (col + 1))

-- a listed place lies in the matrix
abbrev pub is_due : Head → Due → Bool
is_due head (Lines count) = true
is_due head (Listed row col) = nat_lt row head.rows && nat_lt col head.cols

-- at this line the entries are what it counts for, and those from the places after it on
abbrev pub CountsNext : Head → Due → List ℕ → Counted → Due → Type 0
CountsNext head due line counted after = (n : ℕ) (lines : List Numbered) (past : ℕ) →
    entries head (due_list head due) ((n, words line) ∷ lines) past
    ≡ and_then (entries head (due_list head after) lines past) (λ more. Ok (counted_list counted ++ more))

-- this line is refused
abbrev pub RefusesNext : Head → Due → List ℕ → Rule → Type 0
RefusesNext head due line rule = (n : ℕ) (lines : List Numbered) (past : ℕ) →
    entries head (due_list head due) ((n, words line) ∷ lines) past ≡ Err (n, rule)
