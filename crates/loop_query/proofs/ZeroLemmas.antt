-- Sparse arrays keep their zeros, and files begin with them.
use Rattle.std.proofs.Common.{◌≡◌, ◌≢◌, ◌∙◌, ℕ, zero, suc, ◌*◌, ◌/◌, ◌%◌, ◌^◌, ◌<◌, ◌==◌, Bool, true, false, not, ◌&&◌, List, [], ◌∷◌, Option, Some, None, length, map, take, get_or, ℤ, refl, sym, ap, subst, ⊎_elim, arith}
use Rattle.std.specs.Prelude.{slice_get, if◌then◌else◌}
use Rattle.std.proofs.lemmas.List.{get_or-set_other, get_or-replicate, get_or_past, length-replicate}
use Rattle.std.proofs.lemmas.List.FromFn.{get_or-map-range_with_len, length-map-range_with_len}
use Rattle.std.proofs.Math.Nat.{zero-add}
use Rattle.std.proofs.lemmas.Bool.{cases_lt, eq-eqb, eqb-true}
use Rattle.std.proofs.lemmas.List.Folds.{list_any_at}
use Rattle.std.proofs.lemmas.Nat.{div-mul-add, mod-mul-add}
use Rattle.std.specs.List.{All, fold, list_any, range_with_len}
use Rattle.bern_base.specs.Matrix.{IsInside, element, number}
use Rattle.bern_base.specs.declared.job.ArrayDecl.{ArrayDecl}
use Rattle.bern_base.specs.declared.job.Checked.{Checked}
use Rattle.bern_base.specs.declared.job.FormatDecl.{FormatDecl}
use Rattle.bern_base.specs.declared.job.Nest.{Nest}
use Rattle.bern_base.specs.declared.matrix.Entry.{Entry}
use Rattle.bern_base.specs.declared.shape.Shape.{Shape}
use Rattle.bern_base.specs.declared.shape.Shape.TheVariants as shape
use Rattle.bern_base.proofs.SumLemmas.{sum_by_none}
use Rattle.job_model.specs.Accepted.{IsAccepted, IsNestOf}
use Rattle.job_model.specs.Nests.{at_point, after_nest, after_found, after_turn, state_before, first_values, first_state}
use Rattle.job_model.specs.Points.{points, spans_of}
use Rattle.job_model.specs.Runnable.{IsTarget}
use Rattle.job_model.specs.State.{State, read, zeros}
use Rattle.format_model.specs.Checks.{has_astray, is_astray}
use Rattle.format_model.specs.Stored.{is_stored, stands_at, has_entry_at, is_on_diagonal}
use Rattle.term_model.specs.Activity.{Entries, SparseHoldZeros, stores, stores_in, entries_of, file_entries, first_entries}
use Rattle.term_model.specs.Terms.{is_whole}
use Rattle.loop_query.specs.ActivityLaws.{ZerosStay, ActiveTermsSumInTurns, FitsFile, FilesBeginWithZeros}
use Rattle.loop_query.proofs.ActivityLemmas.{active_terms_sum}

fold_keeps : {S X : Type 0} (P : S → Type 0) (f : S → X → S) → ((s : S) (x : X) → P s → P (f s x)) → (xs : List X) (s : S) → P s → P (fold f s xs)
fold_keeps P f keeps [] s is = is
fold_keeps P f keeps (x ∷ xs) s is = fold_keeps P f keeps xs (f s x) (keeps s x is)

-- one element of a whole array is changed
write_keeps : (job : Checked) (entries : Entries) (nest : Nest) → IsTarget job (spans_of nest.vars) nest.target → (state : State) (point : List ℤ) →
    SparseHoldZeros job entries state → SparseHoldZeros job entries (at_point job.arrays nest state point)
write_keeps job entries nest target state point zeros array sparse n unstored =
    let apart : array ≢ nest.target.array = λ same.
    let whole : is_whole job.formats (slice_get job.arrays array) ≡ true =
    ap (λ a. is_whole job.formats (slice_get job.arrays a)) same ∙ ap (is_whole job.formats) target.element.named ∙ target.whole in
    absurd cc in
    ap (λ values. get_or values n 0) (get_or-set_other state nest.target.array array _ [] apart) ∙ zeros array sparse n unstored

pub nest_keeps : (job : Checked) (entries : Entries) (nest : Nest) → IsNestOf job nest → (state : State) → SparseHoldZeros job entries state → SparseHoldZeros job entries (after_nest job.arrays state nest)
nest_keeps job entries nest is state zeros = fold_keeps (SparseHoldZeros job entries) (at_point job.arrays nest) (write_keeps job entries nest is.target) (points nest) state zeros

-- what stands in a list has what all have
all_at : {X : Type 0} (P : X → Type 0) (xs : List X) (k : ℕ) (x : X) → All P xs → slice_get xs k ≡ Some x → P x
all_at P [] k x all is = absurd cc
all_at P (y ∷ xs) zero x all is = let same : y ≡ x = cc in subst P same (all 0 y (omega arith))
all_at P (y ∷ xs) (suc k) x all is = all_at P xs k x (λ j d below. all (suc j) d (omega (arith, below))) is

turn_keeps : (job : Checked) (entries : Entries) → IsAccepted job → (state : State) (k : ℕ) → SparseHoldZeros job entries state → SparseHoldZeros job entries (after_turn job state k)
turn_keeps job entries is state k zeros = found_keeps (slice_get job.nests k) refl
  where
    found_keeps : (found : Option Nest) → slice_get job.nests k ≡ found → SparseHoldZeros job entries (after_found job.arrays state found)
    found_keeps None at = zeros
    found_keeps (Some nest) at = nest_keeps job entries nest (all_at (IsNestOf job) job.nests k nest is.nests at) state zeros

pub zeros_stay : ZerosStay
zeros_stay job entries first is zeros t = fold_keeps (SparseHoldZeros job entries) (after_turn job) (turn_keeps job entries is) (take t job.turns) first zeros

pub active_terms_sum_in_turns : ActiveTermsSumInTurns
active_terms_sum_in_turns job entries first is zeros t point e = active_terms_sum job entries (state_before job first t) point e (zeros_stay job entries first is zeros t)

-- the entries that have a number stand at its row and column
stands : (rows cols : ℕ) (e : Entry) → IsInside rows cols e → stands_at (number cols e / cols) (number cols e % cols) e ≡ true
stands rows cols e inside =
    rw (div-mul-add e.row cols e.col inside.1, mod-mul-add e.row cols e.col inside.1) (rw (eq-eqb e.row e.row refl, eq-eqb e.col e.col refl) refl)

-- an element is 0 where each entry there is
pub element_zero : (cols : ℕ) (entries : List Entry) (n : ℕ) → All (λ e. number cols e ≡ n → e.value ≡ 0) entries → element cols entries n ≡ 0
element_zero cols entries n none =
    ap (λ s. s % 2 ^ 64) (sum_by_none (λ e. if number cols e == n then e.value else 0) entries (λ k d below. by_test (get_or entries k d) (number cols (get_or entries k d) == n) refl (none k d below)))
  where
    by_test : (e : Entry) (b : Bool) → (number cols e == n) ≡ b → (number cols e ≡ n → e.value ≡ 0) → (if b then e.value else 0) ≡ 0
    by_test e true is zero_there = zero_there (eqb-true (number cols e) n is)
    by_test e false is zero_there = refl

-- a format that stores entries has none at an element that is not stored
no_entry : (rows cols : ℕ) (entries : List Entry) (n : ℕ) → All (IsInside rows cols) entries → has_entry_at entries (n / cols) (n % cols) ≡ false → All (λ e. number cols e ≡ n → e.value ≡ 0) entries
no_entry rows cols entries n inside unstored = λ k d below same.
    let here : stands_at (n / cols) (n % cols) (get_or entries k d) ≡ true =
    subst (λ m. stands_at (m / cols) (m % cols) (get_or entries k d) ≡ true) same (stands rows cols (get_or entries k d) (inside k d below)) in
    let some : has_entry_at entries (n / cols) (n % cols) ≡ true = list_any_at (stands_at (n / cols) (n % cols)) entries k d below here in
    absurd cc

-- off the listed diagonals of a diagonal format entries have the value 0
straight_zero : (offsets : List ℤ) (e : Entry) → is_astray offsets e ≡ false → is_on_diagonal offsets e.row e.col ≡ false → e.value ≡ 0
straight_zero offsets e straight off = by_test (e.value == 0) refl (subst (λ b. (not (e.value == 0) && not b) ≡ false) off straight)
  where
    by_test : (b : Bool) → (e.value == 0) ≡ b → (not b && true) ≡ false → e.value ≡ 0
    by_test true is none = eqb-true e.value 0 is
    by_test false is none = absurd cc

off_diagonals : (offsets : List ℤ) (rows cols : ℕ) (entries : List Entry) (n : ℕ) → All (IsInside rows cols) entries → All (λ e. is_astray offsets e ≡ false) entries →
    is_on_diagonal offsets (n / cols) (n % cols) ≡ false → All (λ e. number cols e ≡ n → e.value ≡ 0) entries
off_diagonals offsets rows cols entries n inside straight unstored = λ k d below same.
    let e : Entry = get_or entries k d in
    let row : n / cols ≡ e.row = ap (λ m. m / cols) (sym same) ∙ div-mul-add e.row cols e.col (inside k d below).1 in
    let col : n % cols ≡ e.col = ap (λ m. m % cols) (sym same) ∙ mod-mul-add e.row cols e.col (inside k d below).1 in
    straight_zero offsets e (straight k d below) (ap (λ r. is_on_diagonal offsets r e.col) (sym row) ∙ ap (is_on_diagonal offsets (n / cols)) (sym col) ∙ unstored)

-- where no element of a list passes a test, each one fails it
each_fails : (p : Entry → Bool) (entries : List Entry) → list_any p entries ≡ false → All (λ e. p e ≡ false) entries
each_fails p entries none = λ k d below. by_test k d below (p (get_or entries k d)) refl
  where
    by_test : (k : ℕ) (d : Entry) → k < length entries → (b : Bool) → p (get_or entries k d) ≡ b → p (get_or entries k d) ≡ false
    by_test k d below true is = let some : list_any p entries ≡ true = list_any_at p entries k d below is in absurd cc
    by_test k d below false is = is

-- an entry at an element that is not stored has the value 0
pub unstored_zero : (s : Shape) (rows cols : ℕ) (entries : List Entry) (n : ℕ) → All (IsInside rows cols) entries → has_astray s entries ≡ false → is_stored s entries (n / cols) (n % cols) ≡ false →
    All (λ e. number cols e ≡ n → e.value ≡ 0) entries
unstored_zero shape.DenseOne rows cols entries n inside straight unstored = absurd cc
unstored_zero (shape.DenseDense outer) rows cols entries n inside straight unstored = absurd cc
unstored_zero (shape.Diagonal offsets) rows cols entries n inside straight unstored =
    off_diagonals offsets rows cols entries n inside (each_fails (is_astray offsets) entries straight) unstored
unstored_zero other rows cols entries n inside straight unstored = no_entry rows cols entries n inside unstored

-- an element of zeros, also past their end
zeros_at : (count n : ℕ) → get_or (zeros count) n 0 ≡ 0
zeros_at count n = ⊎_elim (λ inside. get_or-replicate count n 0 0 inside) (λ past. get_or_past (zeros count) n 0 (omega (arith, length-replicate {A = ℕ} count 0, past))) (cases_lt n count)

-- the values with which an array begins
values_zero : (files : List ℕ → List Entry) (array : ArrayDecl) (file : Option (List ℕ)) (n : ℕ) → element array.cols (file_entries files file) n ≡ 0 → get_or (first_values files array file) n 0 ≡ 0
values_zero files array None n none = zeros_at (array.rows * array.cols) n
values_zero files array (Some name) n none =
    let size : ℕ = array.rows * array.cols in
    let f : ℕ → ℕ = element array.cols (files name) in
    ⊎_elim
    (λ inside. get_or-map-range_with_len f 0 size n n 0 inside (zero-add n) ∙ none)
    (λ past. get_or_past (map f (range_with_len 0 size)) n 0 (omega (arith, length-map-range_with_len f 0 size, past)))
    (cases_lt n size)

array_zero : (job : Checked) (files : List ℕ → List Entry) (array : ArrayDecl) (n : ℕ) → FitsFile job files array → stores (file_entries files array.file) array (slice_get job.formats array.format) n ≡ false →
    get_or (first_values files array array.file) n 0 ≡ 0
array_zero job files array n fits unstored =
    let entries : List Entry = file_entries files array.file in
    let format : FormatDecl = fits.straight.0 in
    let shaped : is_stored format.shape entries (n / array.cols) (n % array.cols) ≡ false = ap (λ f. stores entries array f n) (sym fits.straight.1) ∙ unstored in
    values_zero files array array.file n
    (element_zero array.cols entries n (unstored_zero format.shape array.rows array.cols entries n fits.inside fits.straight.2 shaped))

mapped_at : {X Y : Type 0} (f : X → Y) (xs : List X) (k : ℕ) (x : X) (d : Y) → slice_get xs k ≡ Some x → get_or (map f xs) k d ≡ f x
mapped_at f [] k x d is = absurd cc
mapped_at f (y ∷ xs) zero x d is = let same : y ≡ x = cc in ap f same
mapped_at f (y ∷ xs) (suc k) x d is = mapped_at f xs k x d is

mapped_past : {X Y : Type 0} (f : X → Y) (xs : List X) (k : ℕ) (d : Y) → slice_get xs k ≡ None → get_or (map f xs) k d ≡ d
mapped_past f [] k d is = refl
mapped_past f (y ∷ xs) zero d is = absurd cc
mapped_past f (y ∷ xs) (suc k) d is = mapped_past f xs k d is

pub files_begin_with_zeros : FilesBeginWithZeros
files_begin_with_zeros job files fits number sparse n unstored = by_array (slice_get job.arrays number) refl
  where
    entries : ArrayDecl → List Entry
    entries array = file_entries files array.file

    values : ArrayDecl → List ℕ
    values array = first_values files array array.file

    by_array : (found : Option ArrayDecl) → slice_get job.arrays number ≡ found → read (first_state files job.arrays) number n ≡ 0
    by_array None is = ap (λ l. get_or l n 0) (mapped_past values job.arrays number [] is)
    by_array (Some array) is =
        let unstored_here : stores (entries array) array (slice_get job.formats array.format) n ≡ false =
        ap (λ es. stores es array (slice_get job.formats array.format) n) (sym (mapped_at entries job.arrays number array [] is))
        ∙ ap (λ a. stores_in job (entries_of (first_entries files job.arrays) number) a n) (sym is) ∙ unstored in
        ap (λ l. get_or l n 0) (mapped_at values job.arrays number array [] is)
        ∙ array_zero job files array n (all_at (FitsFile job files) job.arrays number array fits is) unstored_here
