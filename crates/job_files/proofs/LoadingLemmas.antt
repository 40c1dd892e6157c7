-- Matrix files, from what was read of them to how they serve their uses.
use Rattle.std.proofs.Common.{◌≡◌, ℕ, ◌+◌, ◌<◌, ◌≤◌, Bool, true, false, nat_lt, if◌then◌else◌, List, ◌++◌, length, length-append, Option, Some, None, Result, Ok, Err, IfOk, sym, ap, ◌∙◌, subst, inl, inr, arith}
use Rattle.std.proofs.lemmas.Bool.{le-ltb, lt-ltb}
use Rattle.bern_base.specs.Matrix.{IsMatrix}
use Rattle.bern_base.specs.declared.limits.TheConstants.{MOST_FILE_BYTES, MOST_WEIGHT}
use Rattle.bern_base.specs.declared.matrix.Matrix.{Matrix}
use Rattle.bern_base.specs.declared.refusal.Rule.{Rule}
use Rattle.bern_base.specs.declared.refusal.Rule.TheVariants.{F7, M12}
use Rattle.bern_base.specs.declared.refusal.Refusal.TheVariants.{File}
use Rattle.bern_ports.specs.Files.{Files}
use Rattle.mm_profile.specs.Lines.{lines}
use Rattle.mm_profile.specs.Profile.{and_then, mm, file}
use Rattle.mm_text.specs.Feeds.{StandsForBytes}
use Rattle.mm_text.specs.declared.feed.MatrixFeed.{MatrixFeed}
use Rattle.job_files.specs.declared.load_error.LoadError.{LoadError}
use Rattle.job_files.specs.declared.load_error.LoadError.TheVariants as e
use Rattle.job_files.specs.declared.serving.Loaded.{Loaded}
use Rattle.job_files.specs.declared.uses.Use.{Use}
use Rattle.job_files.specs.Answers.{IsOf, IsOfFile, IsRefusalOf, LoadsMatrix, Stands}
use Rattle.job_files.specs.FileOrder.{Refused, added, first_broken, found, has, judged, served, weight_with, within_limit}
use Rattle.job_files.specs.Serving.{IsFit, IsJudged, IsTaken, Takes}

-- what was read of a file is what it has
pub of_loads : (files : Files) (name : List ℕ) (result : Result Matrix LoadError) → IsOfFile files name result → LoadsMatrix files name result
of_loads files name (Ok m) of = of
of_loads files name (Err (e.Refused r)) of = of
of_loads files name (Err (e.ReadFault f)) of = absurd of.2
of_loads files name (Err e.NoMemory) of = tt

-- a file whose front is too long is refused for that, as its front is
mm_long : (bytes : List ℕ) → MOST_FILE_BYTES < length bytes → mm bytes ≡ Err (0, M12)
mm_long bytes long = ap (λ b. if b then Err (0, M12) else file (lines bytes)) (lt-ltb MOST_FILE_BYTES (length bytes) long)

pub mm_front : (front back : List ℕ) → MOST_FILE_BYTES < length front → mm front ≡ mm (front ++ back)
mm_front front back long = mm_long front long ∙ sym (mm_long (front ++ back) (longer (length front) (length back) (length (front ++ back)) MOST_FILE_BYTES (length-append front back) long))
  where
    longer : (a b c n : ℕ) → c ≡ a + b → n < a → n < c
    longer a b c n sum above = omega (arith, sum, above)

-- one byte past the limit was read
pub past_limit : (files : Files) (name bytes : List ℕ) (left : Option (List ℕ)) (more : ℕ) (feed : MatrixFeed) (result : Result Matrix LoadError) →
    Stands files name bytes left → StandsForBytes feed bytes → length bytes + more ≡ MOST_FILE_BYTES + 1 → more ≡ 0 → ((bs : List ℕ) → StandsForBytes feed bs → IsOf name (mm bs) result) → LoadsMatrix files name result
past_limit files name bytes left more feed result stands fed sum none is =
    of_loads files name result (bytes ++ stands.0, stands.2, subst (λ r. IsOf name r result) (mm_front bytes stands.0 (omega (arith, sum, none))) (is bytes fed))

-- what the rules of its uses say of a file that was read
read_serves : (files : Files) (uses : List Use) (name : List ℕ) (m : Matrix) (broken : Option Rule) → LoadsMatrix files name (Ok m) → first_broken name m uses ≡ broken → served files uses name ≡ judged name m broken
read_serves files uses name m broken read is = ap (found uses name) read.1 ∙ ap (has uses name) read.2 ∙ ap (judged name m) is

-- and what rule F7 says with it
read_weighs : (files : Files) (uses : List Use) (weight : ℕ) (name : List ℕ) (m : Matrix) (past : Bool) → served files uses name ≡ Ok m → nat_lt MOST_WEIGHT (weight + added uses name m) ≡ past →
    weight_with files uses weight name ≡ (if past then Err (Refused (File name 0 F7)) else Ok (weight + added uses name m))
read_weighs files uses weight name m past serves is =
    ap (λ r. and_then r (λ n. within_limit name (weight + added uses name n))) serves
    ∙ ap (λ b. if b then Err (Refused (File name 0 F7)) else Ok (weight + added uses name m)) is

-- the answer for a file that was read
pub takes_read : (files : Files) (uses : List Use) (weight : ℕ) (name : List ℕ) (m : Matrix) (result : Result Loaded LoadError) → LoadsMatrix files name (Ok m) → IsTaken uses weight name m result → Takes files uses weight name result
takes_read files uses weight name m (Ok l) read taken =
    let fits : first_broken name m uses ≡ None = subst (λ n. first_broken name n uses ≡ None) taken.0.0 taken.0.1 in
    let is = read_serves files uses name m None read fits in (
      is ∙ ap (λ n. Ok n) (sym taken.0.0),
      read_weighs files uses weight name m false is (le-ltb MOST_WEIGHT (weight + added uses name m) (subst (λ w. w ≤ MOST_WEIGHT) taken.1.1 taken.1.2))
          ∙ ap (λ w. Ok w) (sym taken.1.1),
    )
takes_read files uses weight name m (Err (e.Refused r)) read taken = elim taken [
  | inl broken ↦
      ap (λ s. and_then s (λ n. within_limit name (weight + added uses name n))) (read_serves files uses name m (Some broken.0) read broken.1) ∙ ap (λ k. Err (Refused k)) (sym broken.2)
  | inr past ↦
      read_weighs files uses weight name m true (read_serves files uses name m None read past.0) (lt-ltb MOST_WEIGHT (weight + added uses name m) past.1.1)
      ∙ ap (λ k. Err (Refused k)) (sym past.1.0)
]
takes_read files uses weight name m (Err (e.ReadFault fault)) read taken = elim taken [ inl broken ↦ absurd broken | inr past ↦ absurd past.1.0 ]
takes_read files uses weight name m (Err e.NoMemory) read taken = tt

-- a matrix is refused by the first rule that it breaks
pub judged_by : (uses : List Use) (name : List ℕ) (m : Matrix) (rule : Rule) (fault : LoadError) → first_broken name m uses ≡ Some rule → IsRefusalOf (File name 0 rule) fault → IsJudged uses name m (Err fault)
judged_by uses name m rule (e.Refused refusal) broken is = (rule, broken, is)
judged_by uses name m rule (e.ReadFault file) broken is = absurd is
judged_by uses name m rule e.NoMemory broken is = tt

-- what is taken breaks no rule, and keeps the limit with its entries
pub fit_taken : (uses : List Use) (weight : ℕ) (name : List ℕ) (m : Matrix) (result : Result Loaded LoadError) → IsMatrix m → IsTaken uses weight name m result → IfOk result (λ l. IsFit weight uses name l.matrix)
fit_taken uses weight name m (Ok l) is taken = record {
  matrix = subst IsMatrix (sym taken.0.0) is;
  fits = taken.0.1;
  light = subst (λ n. weight + added uses name n ≤ MOST_WEIGHT) (sym taken.0.0) (omega (arith, taken.1.1, taken.1.2));
}
fit_taken uses weight name m (Err fault) is taken = tt

-- and the weight does not fall
pub grows_taken : (uses : List Use) (weight : ℕ) (name : List ℕ) (m : Matrix) (result : Result Loaded LoadError) → IsTaken uses weight name m result → IfOk result (λ l. weight ≤ l.weight)
grows_taken uses weight name m (Ok l) taken = omega (arith, taken.1.1)
grows_taken uses weight name m (Err fault) taken = tt
