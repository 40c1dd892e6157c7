-- The weight after files, and the files that are reached.
use Rattle.std.proofs.Common.{◌≡◌, ℕ, ◌+◌, Bool, true, false, nat_lt, if◌then◌else◌, List, [], ◌∷◌, ◌++◌, take, drop, drop-cons, suc, Option, Some, None, Result, Ok, Err, Contains, refl, sym, ap, ◌∙◌}
use Rattle.std.proofs.lemmas.List.{take-append-drop}
use Rattle.bern_base.specs.declared.matrix.Matrix.{Matrix}
use Rattle.bern_base.specs.declared.refusal.Rule.{Rule}
use Rattle.bern_base.specs.declared.refusal.Rule.TheVariants.{F7}
use Rattle.bern_base.specs.declared.refusal.Refusal.TheVariants.{File}
use Rattle.bern_ports.specs.Files.{Files, bytes_of}
use Rattle.bern_base.specs.declared.limits.TheConstants.{MOST_WEIGHT}
use Rattle.mm_profile.specs.Profile.{Fault, mm, and_then}
use Rattle.job_files.specs.declared.uses.Use.{Use}
use Rattle.job_files.specs.Uses.{mentioned}
use Rattle.job_files.specs.FileOrder.{ReachesUse, Missing, Refused, Stop, added, first_broken, found, has, judged, stop_of, stop_of_uses, stops, weight_after, weight_with, within_limit}

after_both : (files : Files) (uses : List Use) (names more : List (List ℕ)) (first : Result ℕ Stop) →
    ((weight : ℕ) → weight_after files uses weight (names ++ more) ≡ and_then (weight_after files uses weight names) (λ sum. weight_after files uses sum more)) →
    and_then first (λ sum. weight_after files uses sum (names ++ more)) ≡ and_then (and_then first (λ sum. weight_after files uses sum names)) (λ sum. weight_after files uses sum more)
after_both files uses names more (Ok weight) rest = rest weight
after_both files uses names more (Err stop) rest = refl

weight_after-append : (files : Files) (uses : List Use) (names more : List (List ℕ)) (weight : ℕ) →
    weight_after files uses weight (names ++ more) ≡ and_then (weight_after files uses weight names) (λ sum. weight_after files uses sum more)
weight_after-append files uses [] more weight = refl
weight_after-append files uses (name ∷ names) more weight =
    after_both files uses names more (weight_with files uses weight name) (weight_after-append files uses names more)

-- one more file, as it is taken
pub weight_more : (files : Files) (uses : List Use) (weight now : ℕ) (before : List (List ℕ)) (name : List ℕ) (next : Result ℕ Stop) →
    weight_after files uses weight before ≡ Ok now → weight_with files uses now name ≡ next → weight_after files uses weight (before ++ name ∷ []) ≡ and_then next (λ sum. Ok sum)
weight_more files uses weight now before name next is taken =
    weight_after-append files uses before (name ∷ []) weight
    ∙ ap (λ r. and_then r (λ sum. weight_after files uses sum (name ∷ []))) is
    ∙ ap (λ r. and_then r (λ sum. Ok sum)) taken

-- loading stops at a file, whatever stands after it
pub stops_at : (files : Files) (uses : List Use) (weight now : ℕ) (before later : List (List ℕ)) (name : List ℕ) (stop : Stop) →
    weight_after files uses weight before ≡ Ok now → weight_with files uses now name ≡ Err stop → stops files uses weight (before ++ name ∷ later) ≡ Some stop
stops_at files uses weight now before later name stop is none =
    ap stop_of
    (weight_after-append files uses before (name ∷ later) weight
    ∙ ap (λ r. and_then r (λ sum. weight_after files uses sum (name ∷ later))) is
    ∙ ap (λ r. and_then r (λ sum. weight_after files uses sum later)) none)

-- a name among others, and the files before it, which do not stop it
record IsReached (files : Files) (uses : List Use) (weight : ℕ) (names : List (List ℕ)) (name : List ℕ) : Type 0 where
  before : List (List ℕ)
  later : List (List ℕ)
  are : names ≡ before ++ name ∷ later
  fine : stops files uses weight before ≡ None

reaches_use : (files : Files) (weight : ℕ) (uses : List Use) (name : List ℕ) → IsReached files uses weight (mentioned uses) name → ReachesUse files weight uses name
reaches_use files weight uses name is = record { before = is.before; later = is.later; are = is.are; fine = is.fine }

-- what stops for want of a file is that file
missed : (files : Files) (uses : List Use) (weight : ℕ) (name other : List ℕ) (bytes : Option (List ℕ)) → bytes_of files name ≡ bytes →
    and_then (found uses name bytes) (λ m. within_limit name (weight + added uses name m)) ≡ Err (Missing other) → (name ≡ other) × (bytes_of files name ≡ None)
missed files uses weight name other None is stop = (cc, is)
missed files uses weight name other (Some bytes) is stop = absurd (read (mm bytes) stop)
  where
    within : (total : ℕ) (past : Bool) → (if past then Err (Refused (File name 0 F7)) else Ok total) ≡ Err (Missing other) → ⊥
    within total true stop = cc
    within total false stop = cc

    fits : (m : Matrix) (broken : Option Rule) → and_then (judged name m broken) (λ n. within_limit name (weight + added uses name n)) ≡ Err (Missing other) → ⊥
    fits m None stop = within (weight + added uses name m) (nat_lt MOST_WEIGHT (weight + added uses name m)) stop
    fits m (Some rule) stop = cc

    read : (result : Result Matrix Fault) → and_then (has uses name result) (λ m. within_limit name (weight + added uses name m)) ≡ Err (Missing other) → ⊥
    read (Ok m) stop = fits m (first_broken name m uses) stop
    read (Err fault) stop = cc

-- of the names after a first one, or of that one
misses_at : (files : Files) (uses : List Use) (name n : List ℕ) (names : List (List ℕ)) (weight : ℕ) (first : Result ℕ Stop) → weight_with files uses weight n ≡ first →
    ((sum : ℕ) → stops files uses sum names ≡ Some (Missing name) → IsReached files uses sum names name × (bytes_of files name ≡ None)) →
    stop_of (and_then first (λ sum. weight_after files uses sum names)) ≡ Some (Missing name) → IsReached files uses weight (n ∷ names) name × (bytes_of files name ≡ None)
misses_at files uses name n names weight (Ok sum) is later stop =
    let rest = later sum stop in (
      record {
        before = n ∷ rest.0.before;
        later = rest.0.later;
        are = ap (λ ns. n ∷ ns) rest.0.are;
        fine = ap (λ r. stop_of (and_then r (λ sum. weight_after files uses sum rest.0.before))) is ∙ rest.0.fine;
      },
      rest.1,
    )
misses_at files uses name n names weight (Err why) is later stop =
    let same : why ≡ Missing name = cc in
    let gone = missed files uses weight n name (bytes_of files n) refl (is ∙ ap (λ s. Err s) same) in (
      record { before = []; later = names; are = ap (λ k. k ∷ names) gone.0; fine = refl },
      ap (bytes_of files) (sym gone.0) ∙ gone.1,
    )

misses : (files : Files) (uses : List Use) (name : List ℕ) (names : List (List ℕ)) (weight : ℕ) → stops files uses weight names ≡ Some (Missing name) →
    IsReached files uses weight names name × (bytes_of files name ≡ None)
misses files uses name [] weight stop = absurd cc
misses files uses name (n ∷ names) weight stop =
    misses_at files uses name n names weight (weight_with files uses weight n) refl (λ sum later. misses files uses name names sum later) stop

pub reaches_missing : (files : Files) (weight : ℕ) (uses : List Use) (name : List ℕ) → stop_of_uses files weight uses ≡ Some (Missing name) → ReachesUse files weight uses name × (bytes_of files name ≡ None)
reaches_missing files weight uses name stop =
    let is = misses files uses name (mentioned uses) weight stop in (reaches_use files weight uses name is.0, is.1)

-- what does not stop does not stop before
fine_before : (files : Files) (uses : List Use) (weight : ℕ) (before more : List (List ℕ)) → stops files uses weight (before ++ more) ≡ None → stops files uses weight before ≡ None
fine_before files uses weight before more fine =
    at (weight_after files uses weight before) refl (ap stop_of (sym (weight_after-append files uses before more weight)) ∙ fine)
  where
    at : (first : Result ℕ Stop) → weight_after files uses weight before ≡ first → stop_of (and_then first (λ sum. weight_after files uses sum more)) ≡ None → stops files uses weight before ≡ None
    at (Ok sum) is fine = ap stop_of is
    at (Err stop) is fine = absurd cc

pub reaches_all : (files : Files) (weight : ℕ) (uses : List Use) (name : List ℕ) → stop_of_uses files weight uses ≡ None → Contains (mentioned uses) name → ReachesUse files weight uses name
reaches_all files weight uses name fine there =
    let names : List (List ℕ) = mentioned uses in
    let are : names ≡ take there.0 names ++ name ∷ drop (suc there.0) names =
    sym (take-append-drop there.0 names) ∙ ap (λ ns. take there.0 names ++ ns) (drop-cons names there.0 name there.1 ∙ ap (λ n. n ∷ drop (suc there.0) names) there.2) in
    record {
      before = take there.0 names;
      later = drop (suc there.0) names;
      are = are;
      fine = fine_before files uses weight (take there.0 names) (name ∷ drop (suc there.0) names) (ap (stops files uses weight) (sym are) ∙ fine);
    }
