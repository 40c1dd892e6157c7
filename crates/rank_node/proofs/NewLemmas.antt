-- A new node is its rank at the start.
use Rattle.std.proofs.Common.{◌≡◌, ℕ, zero, suc, ◌-◌, ◌<◌, List, [], ◌∷◌, ◌++◌, Some, length, get_or, slice_get, replicate, append-nil, append_assoc, refl, sym, ap, ◌∙◌, subst, inl, inr, arith}
use Rattle.std.proofs.Math.Path.{fun_ext}
use Rattle.std.proofs.lemmas.Bool.{cases_lt, false≢true}
use Rattle.std.proofs.lemmas.List.{length-replicate, get_or-replicate, get_or_past}
use Rattle.bern_base.specs.declared.job.Checked.{Checked}
use Rattle.bern_base.specs.declared.matrix.Entry.{Entry}
use Rattle.bern_base.specs.declared.letter.Letter.{Letter}
use Rattle.placement.specs.declared.part.Part.{Part}
use Rattle.placement.specs.Cyclic.{cyclic_triples}
use Rattle.rank_scripts.specs.Acts.{Act, Work, Wait}
use Rattle.rank_scripts.specs.Scripts.{book}
use Rattle.rank_scripts.specs.Nodes.{fresh, sent, NodeFit}
use Rattle.rank_scripts.specs.Nodes as scripted
use Rattle.rank_scripts.specs.Rounds.{posts_between, acts_of_all}
use Rattle.rank_scripts.proofs.NodeLemmas.{fresh_fit}
use Rattle.rank_scripts.proofs.BookLemmas.{sent-fresh}
use Rattle.rank_model.specs.Products.{IsRun, Run, answer_part, scripts, schedule}
use Rattle.turn_model.specs.Schedules.{rounds}
use Rattle.rank_node.specs.declared.node.Node.{Node}
use Rattle.rank_node.specs.declared.stage.Stage.TheVariants.{Inspect}
use Rattle.rank_node.specs.declared.stage.Tally.{Tally}
use Rattle.rank_node.specs.Holdings.{AreHeld}
use Rattle.rank_node.specs.Jobs.{ArePartsOf, IsDealing, IsJobOf}
use Rattle.rank_node.specs.Positions.{due_request, due_values, from_requests, from_inner}
use Rattle.rank_node.specs.Waits.{letters_from}
use Rattle.rank_node.specs.NodeStates.{IsTallied, IsNode}
use Rattle.rank_node.proofs.NodeLemmas.{node_at, settled_same}

-- the script, by its posts
script_is : (run : Run) (r : ℕ) → acts_of_all run.ranks r (rounds (schedule run)) ≡ from_requests run r 0
script_is run r =
    let whole : run.ranks - 0 ≡ run.ranks = omega arith in
    let posts = posts_between (due_request run r) 0 run.ranks in
    let values = posts_between (due_values run r) 0 run.ranks in
    let joined : (posts ++ Wait ∷ []) ++ ((values ++ from_inner) ++ []) ≡ posts ++ Wait ∷ (values ++ from_inner) =
    ap (λ xs. (posts ++ Wait ∷ []) ++ xs) (append-nil (values ++ from_inner)) ∙ append_assoc posts (Wait ∷ []) (values ++ from_inner) in
    rw whole joined

-- no letter was taken
none_given : (count : ℕ) (given : List (List Letter)) → given ≡ replicate count [] → letters_from given ≡ (λ q. [])
none_given count given are =
    fun_ext (λ q. ap (λ xs. get_or xs q []) are ∙ elim (cases_lt q count) [
      | inl within ↦ get_or-replicate count q [] [] within
      | inr past ↦ get_or_past (replicate count []) q [] (rw (length-replicate count (no_letters)) past)
    ])
  where
    no_letters : List Letter
    no_letters = []

pub new_fresh : (run : Run) (r count : ℕ) (given : List (List Letter)) → given ≡ replicate count [] → node_at run r Inspect (letters_from given) ≡ fresh (scripts run) r
new_fresh run r count given are =
    ap (node_at run r Inspect) (none_given count given are) ∙
    settled_same run r 0 ((scripts run).script r) (λ q. []) (λ q. book (scripts run) r q) Inspect (fresh_fit (scripts run) r)
    (ap (λ (acts : List (Act Letter)). start acts) (script_is run r))
  where
    start : List (Act Letter) → scripted.Position Letter
    start acts = record { passed = 0; todo = Work ∷ acts }

-- a slice has an element at each index
pub element_at : {A : Type 0} (xs : List A) (i : ℕ) → i < length xs → (x : A) × (slice_get xs i ≡ Some x)
element_at [] i below = absurd (omega arith)
element_at (x ∷ xs) zero below = (x, refl)
element_at (x ∷ xs) (suc i) below = element_at xs i (omega arith)

-- a new node
abbrev pub new_node : ℕ → ℕ → ℕ → ℕ → ℕ → ℕ → List Entry → List (List ℕ) → List (List ℕ) → List ℕ → List (List Letter) → List Tally → Node
new_node rank ranks extent block target source entries values asks sums given sent =
    record {
      rank = rank;
      ranks = ranks;
      extent = extent;
      block = block;
      target = target;
      source = source;
      entries = entries;
      values = values;
      asks = asks;
      sums = sums;
      given = given;
      sent = sent;
      stage = Inspect;
    }

pub new_is : (run : Run) (job : Checked) (parts : List Part) (rank ranks extent block target source : ℕ) (entries : List Entry) (values asks : List (List ℕ)) (sums : List ℕ) (given : List (List Letter)) (tallies : List Tally) →
    IsRun run → IsJobOf run job → ArePartsOf run rank parts → rank < run.ranks → ranks ≡ run.ranks → IsDealing run extent block → target ≡ run.target → source ≡ run.source →
    entries ≡ answer_part run rank → AreHeld job parts (length parts) values → given ≡ replicate ranks [] → tallies ≡ replicate ranks (record { letters = 0; values = 0 }) →
    IsNode run (new_node rank ranks extent block target source entries values asks sums given tallies)
new_is run job parts rank ranks extent block target source entries values asks sums given tallies is job_is parts_are rank_below ranks_are dealing target_is source_is entries_are held given_are tallies_are =
    let same = new_fresh run rank ranks given given_are in
    record {
      of_run = record {
        run_is = is;
        rank = rank_below;
        ranks = ranks_are;
        some_block = dealing.some;
        place = dealing.place ∙ ap (λ k. cyclic_triples extent k block) (sym ranks_are);
        target = target_is;
        source = source_is;
        entries = entries_are;
        arrays = held.long ∙ parts_are.long;
      };
      part = λ array whole.
          let inside : array < length parts = rw parts_are.long (is.dense_within array whole) in
          let part = element_at parts array inside in
          held.each array part.0 inside part.1 (sym (job_is.whole array) ∙ whole) ∙ parts_are.whole array part.0 part.1 whole;
      asked = λ e. absurd (false≢true e);
      summed = λ e. absurd (false≢true e);
      boxes = ap length given_are ∙ length-replicate ranks (no_letters) ∙ ranks_are;
      fronts = λ q below. let none = ap (λ (f : ℕ → List Letter). f q) (none_given ranks given given_are) in rw none refl;
      tallies = ap length tallies_are ∙ length-replicate ranks (no_tally) ∙ ranks_are;
      tallied = λ q d below.
          let P : scripted.Node Letter → Type 0 = λ node. IsTallied (sent (scripts run) rank node q) (get_or tallies q d) in
          let here : get_or tallies q d ≡ record { letters = 0; values = 0 } = ap (λ xs. get_or xs q d) tallies_are ∙ get_or-replicate ranks q (record { letters = 0; values = 0 }) d (rw ranks_are below) in
          subst P (sym same) (rw (sent-fresh (scripts run) rank q, here) (record { letters = refl; values = refl }));
      letter = tt;
      fit = subst (NodeFit (scripts run) rank) (sym same) (fresh_fit (scripts run) rank);
    }
  where
    no_letters : List Letter
    no_letters = []

    no_tally : Tally
    no_tally = record { letters = 0; values = 0 }
