-- How far a rank has come: the letters that it took and posted, and where it stands.
use Rattle.std.specs.Prelude.{◌≡◌, ℕ, suc, ◌+◌, ◌<◌, ◌≤◌, ◌==◌, ◌&&◌, not, Bool, true, List, [], ◌∷◌, ◌++◌, length, take, drop, slice_index_or, slice_set}
use Rattle.std.specs.List.{sum_by}
use Rattle.bern_base.specs.declared.letter.Letter.{Letter}
use Rattle.bern_base.specs.declared.letter.Letter.TheVariants.{Request, Values}
use Rattle.bern_base.specs.declared.letter.Needs.{Needs}
use Rattle.rank_scripts.specs.Acts.{Post, posts_to, receiver}
use Rattle.rank_scripts.specs.Scripts.{Scripts, book, IsNextOf}
use Rattle.rank_scripts.specs.Nodes.{worked, posted, took, sent, NodeFit}
use Rattle.rank_scripts.specs.Nodes as scripted
use Rattle.rank_scripts.specs.Rounds.{letters_of}
use Rattle.turn_model.specs.Runs.{IsRun, Run, schedule, scripts, some_due}
use Rattle.turn_model.specs.Schedules.{rounds, values_in}
use Rattle.turn_node.specs.declared.progress.Progress.{Progress}
use Rattle.turn_node.specs.declared.stage.Stage.{Stage}
use Rattle.turn_node.specs.declared.stage.Tally.{Tally}
use Rattle.turn_node.specs.Asks.{no_needs}
use Rattle.turn_node.specs.Parts.{At, all_asks, needs_from}
use Rattle.turn_node.specs.Positions.{IsComing, IsStage, is_inspected, Phase, passed_of, phase_of, steps_left, todo_of, turn_of}

-- what a rank reads of another one in its lists
abbrev pub taken_at : List ℕ → ℕ → ℕ
taken_at taken q = slice_index_or taken q 0

abbrev pub box_at : List (List Letter) → ℕ → List Letter
box_at mail q = slice_index_or mail q []

abbrev pub asked_at : List Needs → ℕ → Needs
asked_at asked q = slice_index_or asked q no_needs

-- what rank r was given by each other one: the front of its book, by how many letters were taken
abbrev pub given_by : Run → ℕ → List ℕ → ℕ → List Letter
given_by run r taken q = take (taken_at taken q) (book (scripts run) q r)

-- how many letters of rank q rank r is done with before turn t: the Request, and the values of earlier turns
abbrev pub used : Run → ℕ → ℕ → ℕ → ℕ
used run r t q = length (letters_of q r (take (suc t) (rounds (schedule run))))

-- rank r before turn t: of each other rank it keeps what it was asked for, once the Request came, and the values that it
-- was given and has not used
pub record HasMail (run : Run) (r : ℕ) (turns : List ℕ) (asked : List Needs) (mail : List (List Letter)) (taken : List ℕ) (t : ℕ) : Type 0 where
  pub run_is : IsRun run
  pub rank : r < run.ranks
  pub turns_are : turns ≡ run.turns
  pub asked_long : length asked ≡ run.ranks
  pub mail_long : length mail ≡ run.ranks
  pub taken_long : length taken ≡ run.ranks
  pub within : (q : ℕ) → taken_at taken q ≤ length (book (scripts run) q r)
  pub requests : (q : ℕ) → 0 < taken_at taken q → asked_at asked q ≡ needs_from run q r
  pub early : (q : ℕ) → box_at mail q ≡ drop (used run r t q) (given_by run r taken q)

abbrev pub given_of : Run → Progress → ℕ → List Letter
given_of run n = given_by run n.rank n.taken

abbrev pub HasMailAt : Run → Progress → ℕ → Type 0
HasMailAt run n t = HasMail run n.rank n.turns n.asked n.mail n.taken t

-- its position, what it was given, and what it has still to post
abbrev pub node_of : Run → Progress → scripted.Node Letter
node_of run n = record {
  passed = passed_of run n.stage;
  todo = todo_of run n.rank n.stage;
  given = given_of run n;
  rest = λ q. posts_to q (todo_of run n.rank n.stage);
}

-- it has counted what it posted to each rank
pub record IsTallied (posted : List Letter) (tally : Tally) : Type 0 where
  pub letters : tally.letters ≡ length posted
  pub values : tally.values ≡ sum_by values_in posted

abbrev pub AreTallied : Run → ℕ → scripted.Node Letter → List Tally → Type 0
AreTallied run r node tallies = (q : ℕ) (d : Tally) → q < run.ranks → IsTallied (sent (scripts run) r node q) (slice_index_or tallies q d)

-- it is a rank of the run
pub record IsProgress (run : Run) (n : Progress) : Type 0 where
  pub mail : HasMailAt run n (turn_of run n.stage)
  pub asks : is_inspected n.stage ≡ true → n.asks ≡ all_asks run n.rank
  pub sent_long : length n.sent ≡ run.ranks
  pub tallied : AreTallied run n.rank (node_of run n) n.sent
  pub stage : IsStage run n.rank n.stage
  pub fit : NodeFit (scripts run) n.rank (node_of run n)

-- the rank of the run, before its turn
abbrev pub at : Run → Progress → At
at run n = record { run = run; rank = n.rank; turn = turn_of run n.stage }

-- it is the same rank of the run, which has moved on in its script: it stands in this turn, its part of the arrays has come as far as this,
-- not, and so much less its works may still take
pub record Goes (run : Run) (old new : Progress) (turn : ℕ) (phase : Phase) (cost : ℕ) (next : scripted.Node Letter) : Type 0 where
  pub progress : IsProgress run new
  pub rank : new.rank ≡ old.rank
  pub moved : node_of run new ≡ next
  pub turn_is : turn_of run new.stage ≡ turn
  pub phase_is : phase_of new.stage ≡ phase
  pub cost_is : steps_left run new.rank new.stage + cost ≡ steps_left run old.rank old.stage

-- by a letter alone it stays where it is, but for the script
abbrev pub Stays : Run → Progress → Progress → scripted.Node Letter → Type 0
Stays run old new next = Goes run old new (turn_of run old.stage) (phase_of old.stage) 0 next

-- after a post to rank `to` of a letter with so many values rank r reaches the next stage
pub record Posts (run : Run) (r to : ℕ) (stage next : Stage) (values : ℕ) : Type 0 where
  pub letter : Letter
  pub todo : todo_of run r stage ≡ Post to letter ∷ todo_of run r next
  pub size : values_in letter ≡ values
  pub coming : IsComing run next
  pub passed : passed_of run next ≡ passed_of run stage
  pub inspected : is_inspected next ≡ is_inspected stage
  pub phase : phase_of next ≡ phase_of stage
  pub turn : turn_of run next ≡ turn_of run stage
  pub steps : steps_left run r next ≡ steps_left run r stage

-- a Request is kept as what its sender asks for, and values after those that its sender sent before
abbrev pub Keeps : Progress → Progress → ℕ → Letter → Type 0
Keeps old new from (Request needs) = new ≡ record old { asked = slice_set old.asked from needs }
Keeps old new from (Values turn values) = new ≡ record old { mail = slice_set old.mail from (box_at old.mail from ++ Values turn values ∷ []) }

-- another rank owes values for the nest, by what was asked of it
abbrev pub owes : ℕ → ℕ → ℕ → List Needs → Bool
owes r q nest asks = not (q == r) && some_due nest (asked_at asks q).sets

-- the letters of turn t were dropped, and nothing else changed
pub record Uses (run : Run) (old new : Progress) (t : ℕ) : Type 0 where
  pub same : new ≡ record old { mail = new.mail }
  pub mail : HasMailAt run new (t + 1)

-- the letter is the first that a rank at a post has still to post to the receiver
abbrev pub IsFirstOfRest : Scripts Letter → ℕ → scripted.Node Letter → Letter → Type 0
IsFirstOfRest scripts r node letter = take 1 (node.rest (receiver node.todo)) ≡ letter ∷ []

-- it is the next of the receiver's book, after what was posted
abbrev pub IsNextToPost : Scripts Letter → ℕ → scripted.Node Letter → Letter → Type 0
IsNextToPost scripts r node letter = IsNextOf (book scripts r (receiver node.todo)) (sent scripts r node (receiver node.todo)) letter
