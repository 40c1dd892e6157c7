-- What names stand for is there, and the lists of a job only grow.
use Rattle.std.proofs.Common.{◌≡◌, ◌∙◌, ℕ, Bool, true, false, not, cond, List, [], ◌∷◌, ◌++◌, Option, Some, None, length, refl, sym, ap, subst, if◌then◌else◌}
use Rattle.std.specs.Prelude.{slice_get}
use Rattle.std.specs.List.{All, fold}
use Rattle.std.specs.Option.{option_map_or, option_or}
use Rattle.std.specs.Str.{bytes_eq}
use Rattle.std.proofs.lemmas.Option.{get_or_from_slice_get}
use Rattle.bern_base.specs.Shapes.{is_all_dense}
use Rattle.bern_base.specs.declared.job.ArrayDecl.{ArrayDecl}
use Rattle.bern_base.specs.declared.job.Checked.{Checked}
use Rattle.bern_base.specs.declared.job.ExtentDecl.{ExtentDecl}
use Rattle.bern_base.specs.declared.job.FormatDecl.{FormatDecl}
use Rattle.bern_base.specs.declared.job.PlaceDecl.{PlaceDecl}
use Rattle.bern_base.specs.declared.raw.Form.{Form}
use Rattle.bern_base.specs.declared.raw.Form.TheVariants as form
use Rattle.bern_base.specs.declared.raw.JobLine.{JobLine}
use Rattle.bern_base.specs.declared.raw.RawNest.{RawNest}
use Rattle.bern_base.specs.declared.raw.RawVar.{RawVar}
use Rattle.bern_base.specs.declared.shape.Shape.TheVariants as shape
use Rattle.job_model.specs.Accepted.{Has, IsDenseAt}
use Rattle.job_model.specs.Runnable.{is_dense, is_dense_format}
use Rattle.job_rules.specs.declared.names.Named.{Named}
use Rattle.job_rules.specs.declared.names.Named.TheVariants as named
use Rattle.job_rules.specs.Known.{Known, lookup}
use Rattle.job_rules.specs.State.{State, is_extent, is_place, is_format, is_array, number_of, shape_at, is_known}
use Rattle.job_rules.specs.Looked.{named_in, scope_of, variables_of, with_variable}
use Rattle.job_rules.specs.Nests.{facts_at, facts_of, no_array}
use Rattle.job_rules.specs.After.{after}
use Rattle.job_rules.specs.First.{AcceptsFrom}
use Rattle.job_rules.proofs.ListLemmas.{all_of, get-front}

pub not_false : (b : Bool) → not b ≡ false → b ≡ true
not_false true h = refl
not_false false h = absurd cc

-- an item of this number is there
abbrev pub Found : {X : Type 0} → List X → ℕ → Type 0
Found items number = Has items number (λ item. Unit {0})

-- what a name stands for is there
abbrev pub IsThere : Checked → Named → Type 0
IsThere job (named.Extent n) = Found job.extents n
IsThere job (named.Place n) = Found job.places n
IsThere job (named.Format n) = Found job.formats n
IsThere job (named.Array n) = Found job.arrays n
IsThere job (named.Variable n) = Unit {0}

abbrev pub AreThere : Checked → Known → Type 0
AreThere job [] = Unit {0}
AreThere job (entry ∷ known) = IsThere job entry.1 × AreThere job known

pub found_there : (job : Checked) (name : List ℕ) (known : Known) (what : Named) → AreThere job known → lookup name known ≡ Some what → IsThere job what
found_there job name [] what there found = absurd cc
found_there job name (entry ∷ known) what there found = by (bytes_eq name entry.0) refl (found_there job name known what there.1)
  where
    by : (b : Bool) → bytes_eq name entry.0 ≡ b → (lookup name known ≡ Some what → IsThere job what) → IsThere job what
    by true e more = let same : Some entry.1 ≡ Some what = sym (ap (λ b. cond b (Some entry.1) (lookup name known)) e) ∙ found in
        let is : entry.1 ≡ what = cc in subst (IsThere job) is there.0
    by false e more = more (sym (ap (λ b. cond b (Some entry.1) (lookup name known)) e) ∙ found)

pub there_push : (job : Checked) (known : Known) (name : List ℕ) (what : Named) → AreThere job known → IsThere job what → AreThere job (known ++ (name, what) ∷ [])
there_push job [] name what there one = (one, tt)
there_push job (entry ∷ known) name what there one = (there.0, there_push job known name what there.1 one)

-- the lists of a job only grow
pub record Grows (old new : Checked) : Type 0 where
  pub extents : (k : ℕ) (x : ExtentDecl) → slice_get old.extents k ≡ Some x → slice_get new.extents k ≡ Some x
  pub places : (k : ℕ) (x : PlaceDecl) → slice_get old.places k ≡ Some x → slice_get new.places k ≡ Some x
  pub formats : (k : ℕ) (x : FormatDecl) → slice_get old.formats k ≡ Some x → slice_get new.formats k ≡ Some x
  pub arrays : (k : ℕ) (x : ArrayDecl) → slice_get old.arrays k ≡ Some x → slice_get new.arrays k ≡ Some x

grows_then : (a b c : Checked) → Grows a b → Grows b c → Grows a c
grows_then a b c first second = record {
  extents = λ k x is. second.extents k x (first.extents k x is);
  places = λ k x is. second.places k x (first.places k x is);
  formats = λ k x is. second.formats k x (first.formats k x is);
  arrays = λ k x is. second.arrays k x (first.arrays k x is);
}

-- a line adds to one list
pub line_grows : (state : State) (number : ℕ) (line : Form) → Grows state.job (after state number line).job
line_grows state number (form.Extent name size) =
    record { extents = λ k x is. get-front state.job.extents _ k x is; places = λ k x is. is; formats = λ k x is. is; arrays = λ k x is. is }
line_grows state number (form.Place name extent kind) =
    record { extents = λ k x is. is; places = λ k x is. get-front state.job.places _ k x is; formats = λ k x is. is; arrays = λ k x is. is }
line_grows state number (form.Format name how) =
    record { extents = λ k x is. is; places = λ k x is. is; formats = λ k x is. get-front state.job.formats _ k x is; arrays = λ k x is. is }
line_grows state number (form.Array name extents format axis place file) =
    record { extents = λ k x is. is; places = λ k x is. is; formats = λ k x is. is; arrays = λ k x is. get-front state.job.arrays _ k x is }
line_grows state number (form.Nest nest) = record { extents = λ k x is. is; places = λ k x is. is; formats = λ k x is. is; arrays = λ k x is. is }
line_grows state number (form.Print name) = record { extents = λ k x is. is; places = λ k x is. is; formats = λ k x is. is; arrays = λ k x is. is }

-- so do all lines of a text
pub text_grows : (state : State) (lines : List JobLine) (broken : Option ℕ) (job : Checked) → AcceptsFrom state lines broken job → Grows state.job job
text_grows state [] None job is = subst (Grows state.job) (sym is) (record { extents = λ k x there. there; places = λ k x there. there; formats = λ k x there. there; arrays = λ k x there. there })
text_grows state [] (Some line) job is = absurd is
text_grows state (l ∷ lines) broken job is =
    grows_then state.job (after state l.number l.form).job job (line_grows state l.number l.form) (text_grows (after state l.number l.form) lines broken job is.1)

module _ (old new : Checked) (grows : Grows old new) where
  there_still : (what : Named) → IsThere old what → IsThere new what
  there_still (named.Extent n) h = (h.0, grows.extents n h.0 h.1, tt)
  there_still (named.Place n) h = (h.0, grows.places n h.0 h.1, tt)
  there_still (named.Format n) h = (h.0, grows.formats n h.0 h.1, tt)
  there_still (named.Array n) h = (h.0, grows.arrays n h.0 h.1, tt)
  there_still (named.Variable n) h = tt

  pub all_there_still : (known : Known) → AreThere old known → AreThere new known
  all_there_still [] there = tt
  all_there_still (entry ∷ known) there = (there_still entry.1 there.0, all_there_still known there.1)

-- a name of a kind has its number among those of its kind
module _ (job : Checked) where
  pub extent_at : (o : Option Named) → ((what : Named) → o ≡ Some what → IsThere job what) → not (is_extent o) ≡ false → Found job.extents (number_of o)
  extent_at (Some (named.Extent n)) there is = there (named.Extent n) refl
  extent_at other there is = absurd cc

  pub place_at : (o : Option Named) → ((what : Named) → o ≡ Some what → IsThere job what) → not (is_place o) ≡ false → Found job.places (number_of o)
  place_at (Some (named.Place n)) there is = there (named.Place n) refl
  place_at other there is = absurd cc

  pub format_at : (o : Option Named) → ((what : Named) → o ≡ Some what → IsThere job what) → not (is_format o) ≡ false → Found job.formats (number_of o)
  format_at (Some (named.Format n)) there is = there (named.Format n) refl
  format_at other there is = absurd cc

  pub array_named : (o : Option Named) → ((what : Named) → o ≡ Some what → IsThere job what) → not (is_array o) ≡ false → Found job.arrays (number_of o)
  array_named (Some (named.Array n)) there is = there (named.Array n) refl
  array_named other there is = absurd cc

-- a variable of a nest stands for no declaration
only_variables : (job : Checked) (known : Known) (vars : List RawVar) → AreThere job known → AreThere job (fold with_variable known vars)
only_variables job known [] there = there
only_variables job known (var ∷ vars) there = only_variables job (with_variable known var) vars (by (is_known var.name known))
  where
    by : (b : Bool) → AreThere job (if b then known else known ++ (var.name, named.Variable (length known)) ∷ [])
    by true = there
    by false = there_push job known var.name (named.Variable (length known)) there tt

either_there : (job : Checked) (a b : Option Named) → ((what : Named) → a ≡ Some what → IsThere job what) → ((what : Named) → b ≡ Some what → IsThere job what) → (what : Named) → option_or a b ≡ Some what → IsThere job what
either_there job None b first second what is = second what is
either_there job (Some x) b first second what is = first what is

-- what the names of a nest stand for is there
pub there_in : (state : State) (nest : RawNest) (name : List ℕ) → AreThere state.job state.names → (what : Named) → named_in (scope_of state nest) name ≡ Some what → IsThere state.job what
unfolding variables_of
there_in state nest name there = either_there state.job (lookup name state.names) (lookup name (variables_of nest.vars)) (λ what found. found_there state.job name state.names what there found)
    (λ what found. found_there state.job name (variables_of nest.vars) what (only_variables state.job [] nest.vars tt) found)

-- the facts of an array that is there
pub facts_are : (job : Checked) (n : ℕ) (a : ArrayDecl) → slice_get job.arrays n ≡ Some a → facts_at job n ≡ facts_of job a
unfolding facts_at
facts_are job n a there = ap (facts_of job) (get_or_from_slice_get job.arrays n a no_array there)

-- an array whose facts say so is dense, also when the job has grown
pub dense_is : (old new : Checked) → Grows old new → (n : ℕ) (a : ArrayDecl) → slice_get old.arrays n ≡ Some a → All (λ x. Found old.formats x.format) old.arrays → not (facts_at old n).dense ≡ false → is_dense new.formats a ≡ true
dense_is old new grows n a there stored dense =
    let f = all_of (λ x. Found old.formats x.format) old.arrays n a stored there in
    let is : (facts_at old n).dense ≡ true = not_false (facts_at old n).dense dense in
    let same : is_all_dense (shape_at old.formats a.format) ≡ true = sym (ap (λ facts. facts.dense) (facts_are old n a there)) ∙ is in
    let own : is_all_dense (shape_at old.formats a.format) ≡ is_all_dense f.0.shape = ap (λ o. is_all_dense (option_map_or (λ d. d.shape) o shape.DenseOne)) f.1 in
    ap is_dense_format (grows.formats a.format f.0 f.1) ∙ sym own ∙ same

pub dense_at : (old new : Checked) → Grows old new → (n : ℕ) → Found old.arrays n → All (λ x. Found old.formats x.format) old.arrays → not (facts_at old n).dense ≡ false → IsDenseAt new n
dense_at old new grows n has stored dense = (has.0, grows.arrays n has.0 has.1, dense_is old new grows n has.0 has.1 stored dense)
