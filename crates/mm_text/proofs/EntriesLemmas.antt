-- Entry lines against the places that are due.
use Rattle.std.proofs.Common.{◌≡◌, ℕ, List, ◌∷◌, ◌++◌, Ok, Err, refl}
use Rattle.bern_base.specs.declared.refusal.Rule.{Rule}
use Rattle.bern_base.specs.declared.matrix.Entry.{Entry}
use Rattle.mm_profile.specs.declared.sizes.Head.{Head}
use Rattle.mm_profile.specs.Places.{Place}
use Rattle.mm_profile.specs.Entries.{entry_of}
use Rattle.mm_profile.specs.Profile.{Numbered, entries, and_then}

-- a line that counts
pub entries_ok : (head : Head) (place : Place) (due : List Place) (line : List (List ℕ)) (n : ℕ) (lines : List Numbered) (past : ℕ) (counted : List Entry) → entry_of head place line ≡ Ok counted
    → entries head (place ∷ due) ((n, line) ∷ lines) past ≡ and_then (entries head due lines past) (λ more. Ok (counted ++ more))
entries_ok head place due line n lines past counted e = rw e refl

-- a line that is refused
pub entries_err : (head : Head) (place : Place) (due : List Place) (line : List (List ℕ)) (n : ℕ) (lines : List Numbered) (past : ℕ) (rule : Rule) → entry_of head place line ≡ Err rule
    → entries head (place ∷ due) ((n, line) ∷ lines) past ≡ Err (n, rule)
entries_err head place due line n lines past rule e = rw e refl
