-- Runs worked by hand.
use Rattle.std.specs.Prelude.{◌≡◌, ℕ, zero, suc, ◌+◌, ◌*◌, ◌==◌, if◌then◌else◌, true, List, [], ◌∷◌, ◌++◌, None, refl}
use Rattle.bern_base.specs.declared.letter.Letter.{Letter}
use Rattle.bern_base.specs.declared.letter.Letter.TheVariants.{Request, Values}
use Rattle.bern_base.specs.declared.letter.NeedSet.{NeedSet}
use Rattle.rank_scripts.specs.Acts.{Work, Post, Wait}
use Rattle.rank_scripts.specs.Scripts.{book, letters}
use Rattle.rank_scripts.specs.Worlds.{World, Event, Works, Posts, Takes, accepted, done, start}
use Rattle.rank_scripts.specs.Worlds as worlds
use Rattle.turn_model.specs.Schedules.{Schedule, scripts_of, values_letter}
use Rattle.turn_model.specs.Runs.{Run, events, part_values, rank_budget, run_budget, schedule, scripts, turns_budget}

abbrev set : ℕ → ℕ → ℕ → List ℕ → NeedSet
set nest owner array elements = record { nest = nest; owner = owner; array = array; elements = elements }

-- one array: element e has the value 10 * e + t before turn t
abbrev state_at : ℕ → List (List ℕ)
state_at t = (t ∷ (10 + t) ∷ (20 + t) ∷ (30 + t) ∷ []) ∷ []

abbrev run_on : ℕ → List ℕ → (ℕ → List NeedSet) → Run
run_on ranks turns needs = record {
  ranks = ranks;
  turns = turns;
  needs = needs;
  state = state_at;
  held = λ array p. if p == 0 then 0 ∷ 1 ∷ [] else 2 ∷ 3 ∷ [];
  whole = λ array. array == 0;
  budget = record { inspect = λ p. p; inner = λ t p. 10 * t + p; outer = λ t p. 100 };
}

-- two ranks and the turns 0, 1, 0: each needs an element of the other for nest 0, and rank 1 two more for nest 1
abbrev needs : ℕ → List NeedSet
needs zero = set 0 1 0 (2 ∷ []) ∷ []
needs (suc p) = set 0 0 0 (1 ∷ []) ∷ set 1 0 0 (0 ∷ 1 ∷ []) ∷ []

abbrev repeated : Run
repeated = run_on 2 (0 ∷ 1 ∷ 0 ∷ []) needs

-- each turn's letter has the turn's own values
posted_by_0 : book (scripts repeated) 0 1 ≡ Request (record { sets = set 0 1 0 (2 ∷ []) ∷ [] }) ∷ Values 0 (10 ∷ []) ∷ Values 1 (1 ∷ 11 ∷ []) ∷ Values 2 (12 ∷ []) ∷ []
posted_by_0 = refl

posted_by_1 : book (scripts repeated) 1 0 ≡ Request (record { sets = needs 1 }) ∷ Values 0 (20 ∷ []) ∷ Values 2 (22 ∷ []) ∷ []
posted_by_1 = refl

none_to_itself : book (scripts repeated) 1 1 ≡ []
none_to_itself = refl

-- rank 1 inspects, and in turn 1 it has nothing to post
script_of_1 : (scripts repeated).script 1 ≡ Work ∷ Post 0 (Request (record { sets = needs 1 })) ∷ Wait
    ∷ Post 0 (Values 0 (20 ∷ [])) ∷ Work ∷ Wait ∷ Work
    ∷ Work ∷ Wait ∷ Work
    ∷ Post 0 (Values 2 (22 ∷ [])) ∷ Work ∷ Wait ∷ Work ∷ []
script_of_1 = refl

events_of_repeated : events repeated ≡ 28
events_of_repeated = refl

held_at_the_end : part_values repeated 3 0 1 ≡ 23 ∷ 33 ∷ []
held_at_the_end = refl

-- rank 0 goes a turn ahead: in turn 1 it waits for nothing, and rank 1 holds the letters of turns 0 and 1 before its inner
-- points of turn 0
abbrev ahead : List Event
ahead =
    Works 0 ∷ Posts 0 ∷ Works 1 ∷ Posts 1
    ∷ Takes 0 1 ∷ Takes 1 0 ∷ Posts 1
    ∷ Posts 0 ∷ Works 0 ∷ Takes 0 1 ∷ Works 0
    ∷ Posts 0 ∷ Takes 1 0 ∷ Takes 1 0 ∷ []

abbrev after_ahead : World Letter
after_ahead = worlds.run (scripts repeated) (start (scripts repeated)) ahead

all_were_enabled : accepted (scripts repeated) (start (scripts repeated)) ahead ≡ 14
all_were_enabled = refl

rank_0_in_turn_1 : (after_ahead.node 0).todo ≡ Work ∷ Wait ∷ Work ∷ Post 1 (Values 2 (12 ∷ [])) ∷ Work ∷ Wait ∷ Work ∷ []
rank_0_in_turn_1 = refl

rank_1_before_its_points : (after_ahead.node 1).given 0 ≡ Request (record { sets = needs 0 }) ∷ Values 0 (10 ∷ []) ∷ Values 1 (1 ∷ 11 ∷ []) ∷ []
rank_1_before_its_points = refl

-- and 14 events more lead to the end
abbrev the_others : List Event
the_others =
    Works 0 ∷ Works 0 ∷ Posts 0 ∷ Works 0
    ∷ Works 1 ∷ Works 1 ∷ Works 1 ∷ Works 1 ∷ Posts 1 ∷ Works 1 ∷ Takes 1 0 ∷ Works 1
    ∷ Takes 0 1 ∷ Works 0 ∷ []

all_happen : accepted (scripts repeated) (start (scripts repeated)) (ahead ++ the_others) ≡ 28
all_happen = refl

the_end : done (scripts repeated) (worlds.run (scripts repeated) after_ahead the_others) ≡ true
the_end = refl

-- three ranks in a ring, with 6 Requests and 5 letters of values
abbrev ring : ℕ → List NeedSet
ring zero = set 0 1 0 (2 ∷ []) ∷ set 1 2 0 (3 ∷ []) ∷ []
ring (suc zero) = set 0 2 0 (3 ∷ []) ∷ []
ring (suc (suc p)) = []

letters_of_ring : letters (scripts (run_on 3 (0 ∷ 1 ∷ 0 ∷ []) ring)) ≡ 11
letters_of_ring = refl

events_of_ring : events (run_on 3 (0 ∷ 1 ∷ 0 ∷ []) ring) ≡ 43
events_of_ring = refl

-- without needs there are the Requests alone, and they are empty
abbrev silent : Run
silent = run_on 2 (0 ∷ 1 ∷ 0 ∷ []) (λ p. [])

silent_book : book (scripts silent) 0 1 ≡ Request (record { sets = [] }) ∷ []
silent_book = refl

silent_events : events silent ≡ 18
silent_events = refl

-- a set without elements is no reason for a letter
no_letter : values_letter (schedule (run_on 2 (0 ∷ []) (λ p. set 0 0 0 [] ∷ []))) 0 0 1 ≡ None
no_letter = refl

-- without turns the ranks inspect and exchange their Requests
no_turns : events (run_on 2 [] needs) ≡ 6
no_turns = refl

-- three turns, in the first and the last of which rank 0 has a value for rank 1: each letter names its turn
abbrev three_turns : Schedule
three_turns = record {
  ranks = 2;
  turns = 3;
  needs = λ p q. [];
  values = λ turn p q. if turn == 1 then [] else (turn + 40) ∷ [];
}

posted_in_turns : book (scripts_of three_turns) 0 1 ≡ Request (record { sets = [] }) ∷ Values 0 (40 ∷ []) ∷ Values 2 (42 ∷ []) ∷ []
posted_in_turns = refl

-- the steps of rank 1: one to inspect, and in turns 0, 1 and 2 those of 1, 11 and 21 and thrice 100
steps_of_rank : rank_budget repeated 1 ≡ 334
steps_of_rank = refl

steps_from_turn_2 : turns_budget repeated 1 2 ≡ 121
steps_from_turn_2 = refl

steps_of_run : run_budget repeated ≡ 664
steps_of_run = refl
