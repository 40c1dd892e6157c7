-- One run, worked by hand: two ranks and three rows, of which rank 0 owns the first two.
use Rattle.std.specs.Prelude.{◌≡◌, ℕ, if◌then◌else◌, ◌+◌, ◌-◌, ◌^◌, ◌==◌, ◌||◌, List, [], ◌∷◌, Some, None, refl}
use Rattle.bern_base.specs.declared.letter.Letter.TheVariants.{Request, Values}
use Rattle.bern_base.specs.declared.matrix.Entry.{Entry}
use Rattle.placement.specs.Placement.{Triple, owner_of, local_of, owned_indices}
use Rattle.rank_model.specs.Products.{Run, answer, answer_part, end_state, part_values, receive, schedule, send, state_before, used}
use Rattle.turn_model.specs.Schedules.{request, values_letter}
use Rattle.rank_scripts.specs.Scripts.{book}

abbrev entry_at : ℕ → ℕ → ℕ → Entry
entry_at row col value = record { row = row; col = col; value = value }

abbrev owned_by : ℕ → ℕ → ℕ → Triple
owned_by rank index local = record { index = index; rank = rank; local = local }

abbrev place : List Triple
place = owned_by 0 0 0 ∷ owned_by 0 1 1 ∷ owned_by 1 2 0 ∷ []

-- arrays 0, 1 and 2 are S, D and T: the rows of S are (2, 0, 1), (0, 3, 0) and (0, 5, 2)
abbrev run : Run
run = record {
  ranks = 2;
  place = place;
  target = 2;
  stored = 0;
  source = 1;
  entries = entry_at 0 0 2 ∷ entry_at 0 2 1 ∷ entry_at 1 1 3 ∷ entry_at 2 1 5 ∷ entry_at 2 2 2 ∷ [];
  dense = λ array. array == 1 || array == 2;
  held = λ array p. owned_indices place p;
  first = (2 ∷ 0 ∷ 1 ∷ 0 ∷ 3 ∷ 0 ∷ 0 ∷ 5 ∷ 2 ∷ []) ∷ (7 ∷ 8 ∷ 9 ∷ []) ∷ (10 ∷ 20 ∷ (2 ^ 64 - 1) ∷ []) ∷ [];
}

-- rank 1 has the last row, which is its row 0
answered : answer run 1 ≡ entry_at 2 1 5 ∷ entry_at 2 2 2 ∷ []
unfolding owner_of
answered = refl

answered_here : answer_part run 1 ≡ entry_at 0 1 5 ∷ entry_at 0 2 2 ∷ []
unfolding owner_of local_of
answered_here = refl

-- rank 0 reads all of D, and rank 1 its last two elements
used_by_0 : used run 0 ≡ 0 ∷ 1 ∷ 2 ∷ []
unfolding owner_of
used_by_0 = refl

used_by_1 : used run 1 ≡ 1 ∷ 2 ∷ []
unfolding owner_of
used_by_1 = refl

-- each receives what it reads of the other
received_by_0 : receive run 0 1 ≡ 2 ∷ []
unfolding owner_of
received_by_0 = refl

received_by_1 : receive run 1 0 ≡ 1 ∷ []
unfolding owner_of
received_by_1 = refl

sent_by_0 : send run 0 1 ≡ 1 ∷ []
unfolding owner_of
sent_by_0 = refl

none_of_its_own : receive run 0 0 ≡ []
unfolding owner_of
none_of_its_own = refl

asked : request (schedule run) 1 0 ≡ Request (record { sets = record { nest = 0; owner = 0; array = 1; elements = 1 ∷ [] } ∷ [] })
unfolding owner_of
asked = refl

-- the letters of values go the other way
valued : values_letter (schedule run) 0 0 1 ≡ Some (Values 0 (8 ∷ []))
unfolding owner_of
valued = refl

-- where a rank reads nothing of another, it asks for nothing and has no letter
abbrev diagonal : Run
diagonal = record run { entries = entry_at 0 0 2 ∷ entry_at 2 2 1 ∷ [] }

asked_nothing : request (schedule diagonal) 1 0 ≡ Request (record { sets = [] })
unfolding owner_of
asked_nothing = refl

no_values : values_letter (schedule diagonal) 0 0 1 ≡ None
unfolding owner_of
no_values = refl

-- T grows by 2 * 7 + 1 * 9, by 3 * 8 and by 5 * 8 + 2 * 9, modulo 2^64
ended : end_state run ≡ (2 ∷ 0 ∷ 1 ∷ 0 ∷ 3 ∷ 0 ∷ 0 ∷ 5 ∷ 2 ∷ []) ∷ (7 ∷ 8 ∷ 9 ∷ []) ∷ (33 ∷ 44 ∷ 57 ∷ []) ∷ []
ended = refl

held_before : part_values run (state_before run) 2 0 ≡ 10 ∷ 20 ∷ []
unfolding owned_indices
held_before = refl

held_at_the_end : part_values run (end_state run) 2 1 ≡ 57 ∷ []
unfolding owned_indices
held_at_the_end = refl
