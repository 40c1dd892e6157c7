-- Requests by their words: words are one request at most, break one rule first, and those of a request break none.
use Rattle.std.proofs.Common.{◌≡◌, ℕ, ◌≤◌, ◌<◌, Bool, true, false, List, [], ◌∷◌, Option, Some, None, Result, Ok, Err, IfOk, IfErr, length, map, get_or, codes, decimal, refl, sym, ap, ◌∙◌, subst, inl, inr, arith}
use Rattle.std.specs.Prelude.{if◌then◌else◌}
use Rattle.std.specs.Str.{bytes_eq}
use Rattle.std.proofs.lemmas.List.{get_or-map}
use Rattle.std.proofs.lemmas.Slice.Eq.{bytes_eq-Decides}
use Rattle.std.proofs.lemmas.Fmt.{decimal_injective}
use Rattle.bern_base.specs.declared.limits.TheConstants.{MOST_RANKS}
use Rattle.bern_base.specs.declared.refusal.Rule.{Rule}
use Rattle.bern_top.specs.Requests.{Asks, GivesRequest, HasRanks, HasRequest, IsRanks, IsReplay, IsRequest, IsRun, IsSeed, IsUnbuilt, RefusesBy, RefusesCount, RefusesNamed, RefusesPlan, RefusesRanks, RefusesReplay, RefusesRun, RefusesSeed, RefusesWords, first_name, name_of, request, word_at}
use Rattle.bern_top.specs.declared.requests.Command.{Command}
use Rattle.bern_top.specs.declared.requests.Command.TheVariants.{Plan, Replay, Run}
use Rattle.bern_top.specs.declared.requests.CommandName.{CommandName}
use Rattle.bern_top.specs.declared.requests.CommandName.TheVariants as name
use Rattle.bern_top.specs.declared.requests.Request.{Request}
use Rattle.bern_top.specs.declared.requests.WordsError.{WordsError}
use Rattle.bern_top.specs.declared.requests.WordsError.TheVariants as e

abbrev Texts : Type 0
Texts = List (List ℕ)

-- a word, and none where there are fewer
abbrev word : ℕ → Texts → List ℕ
word k words = get_or words k []

same_ranks : (m n : ℕ) → m ≤ MOST_RANKS → n ≤ MOST_RANKS → decimal m ≡ decimal n → m ≡ n
same_ranks m n low high same = decimal_injective m n (omega (arith, low)) (omega (arith, high)) same

run_words : List ℕ → ℕ → Texts
run_words job ranks = codes "run" ∷ job ∷ decimal ranks ∷ []

plan_words : List ℕ → Texts
plan_words job = codes "plan" ∷ job ∷ []

replay_words : List ℕ → ℕ → ℕ → Texts
replay_words job ranks seed = codes "replay" ∷ job ∷ decimal ranks ∷ decimal seed ∷ []

same_run : (words : Texts) (j k : List ℕ) (m n : ℕ) → IsRun words j m → IsRun words k n → request j (Run m) ≡ request k (Run n)
unfolding run_words
same_run words j k m n first second =
    let same : run_words j m ≡ run_words k n = sym first.words_are ∙ second.words_are in
    ap (λ job. request job (Run m)) (ap (word 1) same) ∙ ap (λ ranks. request k (Run ranks)) (same_ranks m n first.most second.most (ap (word 2) same))

same_plan : (words : Texts) (j k : List ℕ) → words ≡ plan_words j → words ≡ plan_words k → request j Plan ≡ request k Plan
unfolding plan_words
same_plan words j k first second = let same : plan_words j ≡ plan_words k = sym first ∙ second in ap (λ job. request job Plan) (ap (word 1) same)

same_replay : (words : Texts) (j k : List ℕ) (m n s t : ℕ) → IsReplay words j m s → IsReplay words k n t → request j (Replay m s) ≡ request k (Replay n t)
unfolding replay_words
same_replay words j k m n s t first second =
    let same : replay_words j m s ≡ replay_words k n t = sym first.words_are ∙ second.words_are in
    ap (λ job. request job (Replay m s)) (ap (word 1) same)
    ∙ ap (λ ranks. request k (Replay ranks s)) (same_ranks m n first.most second.most (ap (word 2) same))
    ∙ ap (λ seed. request k (Replay n seed)) (decimal_injective s t first.fits second.fits (ap (word 3) same))

-- how many words ask for a command
count_of : Command → ℕ
count_of (Run ranks) = 3
count_of Plan = 2
count_of (Replay ranks seed) = 4

are_many : (words : Texts) (job : List ℕ) (command : Command) → Asks words job command → length words ≡ count_of command
unfolding count_of
are_many words job (Run ranks) asks = ap length asks.words_are
are_many words job Plan asks = ap length asks
are_many words job (Replay ranks seed) asks = ap length asks.words_are

same_count : (words : Texts) (j k : List ℕ) (a b : Command) → Asks words j a → Asks words k b → count_of a ≡ count_of b
same_count words j k a b first second = sym (are_many words j a first) ∙ are_many words k b second

-- words ask for one command
same_asked : (words : Texts) (j k : List ℕ) (a b : Command) → Asks words j a → Asks words k b → request j a ≡ request k b
unfolding count_of plan_words
same_asked words j k (Run m) (Run n) first second = same_run words j k m n first second
same_asked words j k (Run m) Plan first second = absurd (omega (arith, same_count words j k (Run m) Plan first second))
same_asked words j k (Run m) (Replay n t) first second = absurd (omega (arith, same_count words j k (Run m) (Replay n t) first second))
same_asked words j k Plan (Run n) first second = absurd (omega (arith, same_count words j k Plan (Run n) first second))
same_asked words j k Plan Plan first second = same_plan words j k first second
same_asked words j k Plan (Replay n t) first second = absurd (omega (arith, same_count words j k Plan (Replay n t) first second))
same_asked words j k (Replay m s) (Run n) first second = absurd (omega (arith, same_count words j k (Replay m s) (Run n) first second))
same_asked words j k (Replay m s) Plan first second = absurd (omega (arith, same_count words j k (Replay m s) Plan first second))
same_asked words j k (Replay m s) (Replay n t) first second = same_replay words j k m n s t first second

pub same_request : (words : Texts) (a b : Request) → IsRequest words a → IsRequest words b → a ≡ b
same_request words a b first second = same_asked words a.job b.job a.command b.command first second

asked_ranks : (words : Texts) (job : List ℕ) (command : Command) → Asks words job command → HasRanks command
asked_ranks words job (Run ranks) asks = (asks.some, asks.most)
asked_ranks words job Plan asks = tt
asked_ranks words job (Replay ranks seed) asks = (asks.some, asks.most)

pub has_ranks : (words : Texts) (r : Request) (command : Command) → IsRequest words r → r.command ≡ command → HasRanks command
has_ranks words r command is same = subst HasRanks same (asked_ranks words r.job r.command is)

-- which name six tests choose
choose : Bool → Bool → Bool → Bool → Bool → Bool → Option CommandName
choose run report plan sets replay exercise =
    if run then Some name.Run
    else if report then Some name.Report
    else if plan then Some name.Plan
    else if sets then Some name.Sets
    else if replay then Some name.Replay
    else if exercise then Some name.Exercise
    else None

choose_run : (a b c d e f : Bool) → choose a b c d e f ≡ Some name.Run → a ≡ true
unfolding choose
choose_run true b c d e f is = refl
choose_run false true c d e f is = absurd cc
choose_run false false true d e f is = absurd cc
choose_run false false false true e f is = absurd cc
choose_run false false false false true f is = absurd cc
choose_run false false false false false true is = absurd cc
choose_run false false false false false false is = absurd cc

choose_plan : (a b c d e f : Bool) → choose a b c d e f ≡ Some name.Plan → c ≡ true
unfolding choose
choose_plan true b c d e f is = absurd cc
choose_plan false true c d e f is = absurd cc
choose_plan false false true d e f is = refl
choose_plan false false false true e f is = absurd cc
choose_plan false false false false true f is = absurd cc
choose_plan false false false false false true is = absurd cc
choose_plan false false false false false false is = absurd cc

choose_replay : (a b c d e f : Bool) → choose a b c d e f ≡ Some name.Replay → e ≡ true
unfolding choose
choose_replay true b c d e f is = absurd cc
choose_replay false true c d e f is = absurd cc
choose_replay false false true d e f is = absurd cc
choose_replay false false false true e f is = absurd cc
choose_replay false false false false true f is = refl
choose_replay false false false false false true is = absurd cc
choose_replay false false false false false false is = absurd cc

run_named : (word : List ℕ) → name_of word ≡ Some name.Run → word ≡ codes "run"
unfolding choose
run_named word is =
    (bytes_eq-Decides word (codes "run")).0
    (choose_run (bytes_eq word (codes "run")) (bytes_eq word (codes "report")) (bytes_eq word (codes "plan")) (bytes_eq word (codes "sets")) (bytes_eq word (codes "replay")) (bytes_eq word (codes "exercise")) is)

plan_named : (word : List ℕ) → name_of word ≡ Some name.Plan → word ≡ codes "plan"
unfolding choose
plan_named word is =
    (bytes_eq-Decides word (codes "plan")).0
    (choose_plan (bytes_eq word (codes "run")) (bytes_eq word (codes "report")) (bytes_eq word (codes "plan")) (bytes_eq word (codes "sets")) (bytes_eq word (codes "replay")) (bytes_eq word (codes "exercise")) is)

replay_named : (word : List ℕ) → name_of word ≡ Some name.Replay → word ≡ codes "replay"
unfolding choose
replay_named word is =
    (bytes_eq-Decides word (codes "replay")).0
    (choose_replay (bytes_eq word (codes "run")) (bytes_eq word (codes "report")) (bytes_eq word (codes "plan")) (bytes_eq word (codes "sets")) (bytes_eq word (codes "replay")) (bytes_eq word (codes "exercise")) is)

-- the word that an item of the words spells
pub word_is : {A : Type 0} (f : A → List ℕ) (items : List A) (k : ℕ) (item : A) (word : List ℕ) → item ≡ get_or items k item → k < length items → word ≡ f item → word_at k (map f items) ≡ word
word_is f items k item word is within spelled =
    get_or-map f items k item [] within ∙ ap f (sym is) ∙ sym spelled

run_found : (words : Texts) (job ranks : List ℕ) (n : ℕ) → first_name words ≡ Some name.Run → length words ≡ 3 → word_at 1 words ≡ job → word_at 2 words ≡ ranks → IsRanks ranks n → IsRun words job n
run_found [] job ranks n named long second third is = absurd (omega (arith, long))
run_found (a ∷ []) job ranks n named long second third is = absurd (omega (arith, long))
run_found (a ∷ b ∷ []) job ranks n named long second third is = absurd (omega (arith, long))
run_found (a ∷ b ∷ d ∷ []) job ranks n named long second third is = record {
  some = is.0;
  most = is.1;
  words_are = ap (λ t. t ∷ b ∷ d ∷ []) (run_named a named) ∙ ap (λ t. codes "run" ∷ t ∷ d ∷ []) second ∙ ap (λ t. codes "run" ∷ job ∷ t ∷ []) (third ∙ is.2);
}
run_found (a ∷ b ∷ d ∷ e ∷ rest) job ranks n named long second third is = absurd (let more : 4 ≤ length (a ∷ b ∷ d ∷ e ∷ rest) = omega arith in omega (arith, more, long))

plan_found : (words : Texts) (job : List ℕ) → first_name words ≡ Some name.Plan → length words ≡ 2 → word_at 1 words ≡ job → words ≡ plan_words job
unfolding plan_words
plan_found [] job named long second = absurd (omega (arith, long))
plan_found (a ∷ []) job named long second = absurd (omega (arith, long))
plan_found (a ∷ b ∷ []) job named long second = ap (λ t. t ∷ b ∷ []) (plan_named a named) ∙ ap (λ t. codes "plan" ∷ t ∷ []) second
plan_found (a ∷ b ∷ d ∷ rest) job named long second = absurd (let more : 3 ≤ length (a ∷ b ∷ d ∷ rest) = omega arith in omega (arith, more, long))

replay_found : (words : Texts) (job ranks seed : List ℕ) (m n : ℕ) → first_name words ≡ Some name.Replay → length words ≡ 4 → word_at 1 words ≡ job → word_at 2 words ≡ ranks → word_at 3 words ≡ seed → IsRanks ranks m →
    IsSeed seed n → IsReplay words job m n
replay_found [] job ranks seed m n named long second third fourth is fits = absurd (omega (arith, long))
replay_found (a ∷ []) job ranks seed m n named long second third fourth is fits = absurd (omega (arith, long))
replay_found (a ∷ b ∷ []) job ranks seed m n named long second third fourth is fits = absurd (omega (arith, long))
replay_found (a ∷ b ∷ d ∷ []) job ranks seed m n named long second third fourth is fits = absurd (omega (arith, long))
replay_found (a ∷ b ∷ d ∷ e ∷ []) job ranks seed m n named long second third fourth is fits = record {
  some = is.0;
  most = is.1;
  fits = fits.0;
  words_are =
      ap (λ t. t ∷ b ∷ d ∷ e ∷ []) (replay_named a named)
      ∙ ap (λ t. codes "replay" ∷ t ∷ d ∷ e ∷ []) second
      ∙ ap (λ t. codes "replay" ∷ job ∷ t ∷ e ∷ []) (third ∙ is.2)
      ∙ ap (λ t. codes "replay" ∷ job ∷ decimal m ∷ t ∷ []) (fourth ∙ fits.1);
}
replay_found (a ∷ b ∷ d ∷ e ∷ g ∷ rest) job ranks seed m n named long second third fourth is fits = absurd (let more : 5 ≤ length (a ∷ b ∷ d ∷ e ∷ g ∷ rest) = omega arith in omega (arith, more, long))

-- what is answered for the words of a request, of a command that refuses other words so
pub record IsAnswer (words : Texts) (refuses : Rule → Type 0) (result : Result Request WordsError) : Type 0 where
  pub found : IfOk result (IsRequest words)
  pub refused : IfErr result (RefusesBy refuses (HasRequest words))

given : (words : Texts) (refuses : Rule → Type 0) (job : List ℕ) (command : Command) (result : Result Request WordsError) → Asks words job command → GivesRequest (request job command) result → IsAnswer words refuses result
given words refuses job command (Ok r) asks gives = record { found = subst (IsRequest words) (sym gives) asks; refused = tt }
given words refuses job command (Err (e.Refused rule)) asks gives = absurd gives
given words refuses job command (Err e.NoMemory) asks gives = record { found = tt; refused = (request job command, asks) }

pub run_answer : (words : Texts) (job ranks : List ℕ) (n : ℕ) (result : Result Request WordsError) → first_name words ≡ Some name.Run → length words ≡ 3 → word_at 1 words ≡ job → word_at 2 words ≡ ranks → IsRanks ranks n →
    GivesRequest (request job (Run n)) result → IsAnswer words (RefusesRun words) result
run_answer words job ranks n result named long second third is gives = given words (RefusesRun words) job (Run n) result (run_found words job ranks n named long second third is) gives

pub plan_answer : (words : Texts) (job : List ℕ) (result : Result Request WordsError) → first_name words ≡ Some name.Plan → length words ≡ 2 → word_at 1 words ≡ job →
    GivesRequest (request job Plan) result → IsAnswer words (RefusesPlan words) result
unfolding plan_words
plan_answer words job result named long second gives = given words (RefusesPlan words) job Plan result (plan_found words job named long second) gives

pub replay_answer : (words : Texts) (job ranks seed : List ℕ) (m n : ℕ) (result : Result Request WordsError) → first_name words ≡ Some name.Replay → length words ≡ 4 → word_at 1 words ≡ job → word_at 2 words ≡ ranks → word_at 3 words ≡ seed →
    IsRanks ranks m → IsSeed seed n → GivesRequest (request job (Replay m n)) result → IsAnswer words (RefusesReplay words) result
replay_answer words job ranks seed m n result named long second third fourth is fits gives =
    given words (RefusesReplay words) job (Replay m n) result (replay_found words job ranks seed m n named long second third fourth is fits) gives

one_count : (n : ℕ) (words : Texts) (A B : Type 0) (r s : Rule) → (A → B → r ≡ s) → RefusesCount n words A r → RefusesCount n words B s → r ≡ s
one_count n words A B r s rest (inl first) (inl second) = first.1 ∙ sym second.1
one_count n words A B r s rest (inl first) (inr second) = absurd (first.0 second.0)
one_count n words A B r s rest (inr first) (inl second) = absurd (second.0 first.0)
one_count n words A B r s rest (inr first) (inr second) = rest first.1 second.1

one_ranks : (word : List ℕ) (A B : Type 0) (r s : Rule) → (A → B → r ≡ s) → RefusesRanks word A r → RefusesRanks word B s → r ≡ s
one_ranks word A B r s rest (inl first) (inl second) = first.1 ∙ sym second.1
one_ranks word A B r s rest (inl first) (inr second) = absurd (first.0 second.0.0 second.0.1)
one_ranks word A B r s rest (inr first) (inl second) = absurd (second.0 first.0.0 first.0.1)
one_ranks word A B r s rest (inr first) (inr second) = rest first.1 second.1

one_seed : (word : List ℕ) (A B : Type 0) (r s : Rule) → (A → B → r ≡ s) → RefusesSeed word A r → RefusesSeed word B s → r ≡ s
one_seed word A B r s rest (inl first) (inl second) = first.1 ∙ sym second.1
one_seed word A B r s rest (inl first) (inr second) = absurd (first.0 second.0.0 second.0.1)
one_seed word A B r s rest (inr first) (inl second) = absurd (second.0 first.0.0 first.0.1)
one_seed word A B r s rest (inr first) (inr second) = rest first.1 second.1

nothing : (r s : Rule) → ⊥ → ⊥ → r ≡ s
nothing r s first second = absurd first

unbuilt : (r s : Rule) → IsUnbuilt r → IsUnbuilt s → r ≡ s
unbuilt r s first second = first ∙ sym second

one_named : (found : Option CommandName) (words : Texts) (r s : Rule) → RefusesNamed found words r → RefusesNamed found words s → r ≡ s
one_named None words r s = λ first second. first ∙ sym second
one_named (Some name.Run) words r s =
    one_count 3 words (RefusesRanks (word_at 2 words) ⊥ r) (RefusesRanks (word_at 2 words) ⊥ s) r s
    (one_ranks (word_at 2 words) ⊥ ⊥ r s (nothing r s))
one_named (Some name.Report) words r s =
    one_count 3 words (RefusesRanks (word_at 2 words) (IsUnbuilt r) r) (RefusesRanks (word_at 2 words) (IsUnbuilt s) s) r s
    (one_ranks (word_at 2 words) (IsUnbuilt r) (IsUnbuilt s) r s (unbuilt r s))
one_named (Some name.Plan) words r s = one_count 2 words ⊥ ⊥ r s (nothing r s)
one_named (Some name.Sets) words r s =
    one_count 3 words (RefusesRanks (word_at 2 words) (IsUnbuilt r) r) (RefusesRanks (word_at 2 words) (IsUnbuilt s) s) r s
    (one_ranks (word_at 2 words) (IsUnbuilt r) (IsUnbuilt s) r s (unbuilt r s))
one_named (Some name.Replay) words r s =
    one_count 4 words (RefusesRanks (word_at 2 words) (RefusesSeed (word_at 3 words) ⊥ r) r) (RefusesRanks (word_at 2 words) (RefusesSeed (word_at 3 words) ⊥ s) s) r s
    (one_ranks (word_at 2 words) (RefusesSeed (word_at 3 words) ⊥ r) (RefusesSeed (word_at 3 words) ⊥ s) r s
    (one_seed (word_at 3 words) ⊥ ⊥ r s (nothing r s)))
one_named (Some name.Exercise) words r s =
    one_count 3 words (RefusesRanks (word_at 2 words) (RefusesSeed (word_at 1 words) (IsUnbuilt r) r) r) (RefusesRanks (word_at 2 words) (RefusesSeed (word_at 1 words) (IsUnbuilt s) s) s) r s
    (one_ranks (word_at 2 words) (RefusesSeed (word_at 1 words) (IsUnbuilt r) r) (RefusesSeed (word_at 1 words) (IsUnbuilt s) s) r s
    (one_seed (word_at 1 words) (IsUnbuilt r) (IsUnbuilt s) r s (unbuilt r s)))

pub one_rule : (words : Texts) (r s : Rule) → RefusesWords words r → RefusesWords words s → r ≡ s
one_rule words r s = one_named (first_name words) words r s

run_fine : (words : Texts) (job : List ℕ) (ranks : ℕ) (rule : Rule) → IsRun words job ranks → RefusesWords (run_words job ranks) rule → ⊥
unfolding run_words
run_fine words job ranks rule run (inl count) = count.0 refl
run_fine words job ranks rule run (inr (few, inl none)) = none.0 ranks (run.some, run.most, refl)
run_fine words job ranks rule run (inr (few, inr rest)) = rest.1

plan_fine : (job : List ℕ) (rule : Rule) → RefusesWords (plan_words job) rule → ⊥
unfolding plan_words
plan_fine job rule (inl count) = count.0 refl
plan_fine job rule (inr rest) = rest.1

replay_fine : (words : Texts) (job : List ℕ) (ranks seed : ℕ) (rule : Rule) → IsReplay words job ranks seed → RefusesWords (replay_words job ranks seed) rule → ⊥
unfolding replay_words
replay_fine words job ranks seed rule run (inl count) = count.0 refl
replay_fine words job ranks seed rule run (inr (few, inl none)) = none.0 ranks (run.some, run.most, refl)
replay_fine words job ranks seed rule run (inr (few, inr (is, inl none))) = none.0 seed (run.fits, refl)
replay_fine words job ranks seed rule run (inr (few, inr (is, inr rest))) = rest.1

-- the words of a request break no rule
asked_fine : (words : Texts) (job : List ℕ) (command : Command) (rule : Rule) → Asks words job command → RefusesWords words rule → ⊥
unfolding run_words plan_words replay_words
asked_fine words job (Run ranks) rule asks broken = run_fine words job ranks rule asks (subst (λ ws. RefusesWords ws rule) asks.words_are broken)
asked_fine words job Plan rule asks broken = plan_fine job rule (subst (λ ws. RefusesWords ws rule) asks broken)
asked_fine words job (Replay ranks seed) rule asks broken = replay_fine words job ranks seed rule asks (subst (λ ws. RefusesWords ws rule) asks.words_are broken)

pub request_fine : (words : Texts) (r : Request) (rule : Rule) → IsRequest words r → RefusesWords words rule → ⊥
request_fine words r rule is broken = asked_fine words r.job r.command rule is broken
