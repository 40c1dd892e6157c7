-- LoadsUses over uses, from the matrices and the weight of the first ones.
use Rattle.std.proofs.Common.{◌≡◌, ℕ, zero, suc, ◌+◌, ◌*◌, ◌<◌, ◌≤◌, Bool, true, false, ◌||◌, ◌==◌, not, cond, nat_lt, if◌then◌else◌, List, [], ◌∷◌, ◌++◌, length, get_or, take, drop, Option, Some, None, is_some, Result, Ok, Err, length-append, add-one, sym, ap, ◌∙◌, subst, refl, arith}
use Rattle.std.specs.List.{All, AllZip, count_by, list_any, position, position_or_len, slice_get}
use Rattle.std.proofs.lemmas.Bool.{and_parts, lt-ltb}
use Rattle.std.proofs.lemmas.Bool.Decides.{Decides-eqb, nat_tests}
use Rattle.std.proofs.Math.Seq.{take-length}
use Rattle.std.proofs.lemmas.List.Elements.{All-cons, All-nil}
use Rattle.std.proofs.lemmas.List.Quantifiers.{position-Some}
use Rattle.std.proofs.lemmas.List.Sums.{sum_by-cons}
use Rattle.std.proofs.lemmas.Option.{slice_get-get_or, slice_get_read}
use Rattle.std.proofs.lemmas.Slice.Eq.{bytes_eq-Decides}
use Rattle.bern_base.specs.declared.matrix.Matrix.{Matrix}
use Rattle.bern_base.specs.declared.refusal.Rule.{Rule}
use Rattle.bern_base.specs.declared.refusal.Rule.TheVariants.{F1}
use Rattle.bern_ports.specs.Files.{Files, bytes_of}
use Rattle.mm_profile.specs.Profile.{Fault, mm}
use Rattle.job_files.specs.declared.load_error.LoadError.{LoadError}
use Rattle.job_files.specs.declared.load_error.LoadError.TheVariants as e
use Rattle.job_files.specs.declared.uses.Use.{Use}
use Rattle.job_files.specs.declared.uses.Use.TheVariants as by
use Rattle.job_files.specs.declared.serving.Loaded.{Loaded}
use Rattle.job_files.specs.Uses.{file_of, is_of, mentioned}
use Rattle.job_files.specs.Serving.{Beside, IsServedSoFar, IsFit, IsFitFor, IsServed, Serves, beside_first, is_known}
use Rattle.format_model.specs.Checks.{first_of, has_sizes, sizes_rule}
use Rattle.job_files.specs.FileOrder.{HasRoom, IsForUse, IsOfUse, LoadsUses, Refused, Suits, astray_rule, broken_in, broken_rule, first_broken, found, has, judged, served, stop_of, stops, weight_after}
use Rattle.job_files.proofs.MentionLemmas.{around, mentioned_again, mentioned_first}
use Rattle.job_files.proofs.WeightLemmas.{stops_at, weight_more}

some_same : {X : Type 0} (x y : X) → Some x ≡ Some y → x ≡ y
some_same x y same = cc

none_some : {X : Type 0} (x : X) → None ≡ Some x → ⊥
none_some x same = cc

-- one more matrix
pub beside_more : (P : Use → Matrix → Type 0) (uses : List Use) (ms : List Matrix) (u : Use) (m : Matrix) → Beside P uses ms → slice_get uses (length ms) ≡ Some u → P u m → Beside P uses (ms ++ m ∷ [])
beside_more P [] [] u m beside at holds = absurd (none_some u at)
beside_more P [] (n ∷ ms) u m beside at holds = absurd beside
beside_more P (v ∷ uses) [] u m beside at holds = (subst (λ w. P w m) (sym (some_same v u at)) holds, tt)
beside_more P (v ∷ uses) (n ∷ ms) u m beside at holds = (beside.0, beside_more P uses ms u m beside.1 at holds)

-- what holds at a place
beside_at : (P : Use → Matrix → Type 0) (uses : List Use) (ms : List Matrix) (k : ℕ) (u : Use) (m : Matrix) → Beside P uses ms → slice_get uses k ≡ Some u → slice_get ms k ≡ Some m → P u m
beside_at P [] ms k u m beside at there = absurd (none_some u at)
beside_at P (v ∷ uses) [] k u m beside at there = absurd (none_some m there)
beside_at P (v ∷ uses) (n ∷ ms) zero u m beside at there = subst (λ w. P w m) (some_same v u at) (subst (P v) (some_same n m there) beside.0)
beside_at P (v ∷ uses) (n ∷ ms) (suc k) u m beside at there = beside_at P uses ms k u m beside.1 at there

first_is : (P : Use → Matrix → Type 0) (uses : List Use) (ms : List Matrix) (name : List ℕ) (m : Matrix) (first : Option ℕ) → Beside P uses ms → position (is_of name) uses ≡ first → beside_first ms first ≡ Some m → (u : Use) × ((file_of u) ≡ name) × P u m
first_is P uses ms name m None beside at there = absurd (none_some m there)
first_is P uses ms name m (Some k) beside at there =
    let none : Use = by.Order [] 0 in
    let p = position-Some (is_of name) uses k none at in
    (get_or uses k none, (bytes_eq-Decides (file_of (get_or uses k none)) name).0 p.1, beside_at P uses ms k (get_or uses k none) m beside (slice_get-get_or uses k none p.0) there)

-- a matrix that stands beside the first use of a file is the file's
pub fit_again : (weight : ℕ) (all uses : List Use) (ms : List Matrix) (name : List ℕ) (m : Matrix) → Beside (IsFitFor weight all) uses ms → beside_first ms (position (is_of name) uses) ≡ Some m → IsFit weight all name m
fit_again weight all uses ms name m beside there =
    let known = first_is (IsFitFor weight all) uses ms name m (position (is_of name) uses) beside refl there in subst (λ n. IsFit weight all n m) known.1 known.2

pub served_again : (files : Files) (all uses : List Use) (ms : List Matrix) (name : List ℕ) (m : Matrix) → Beside (IsServed files all) uses ms → beside_first ms (position (is_of name) uses) ≡ Some m → served files all name ≡ Ok m
served_again files all uses ms name m beside there =
    let known = first_is (IsServed files all) uses ms name m (position (is_of name) uses) beside refl there in subst (λ n. served files all n ≡ Ok m) known.1 known.2

-- the answer for a use whose file was mentioned before
pub serves_again : (files : Files) (uses : List Use) (ms : List Matrix) (now : ℕ) (name : List ℕ) (m : Matrix) → Beside (IsServed files uses) uses ms →
    beside_first ms (position (is_of name) uses) ≡ Some m → Serves files uses now name (is_known uses ms name) (Ok (record { matrix = m; weight = now }))
serves_again files uses ms now name m beside there =
    let known : is_known uses ms name ≡ true = ap is_some there in
    subst (λ k. Serves files uses now name k (Ok (record { matrix = m; weight = now }))) (sym known) (served_again files uses uses ms name m beside there, refl)

-- the uses up to the next one, and around it
take_next : (uses : List Use) (n : ℕ) (u : Use) → slice_get uses n ≡ Some u → take (suc n) uses ≡ take n uses ++ u ∷ []
take_next [] n u at = absurd (none_some u at)
take_next (v ∷ uses) zero u at = ap (λ w. w ∷ []) (some_same v u at)
take_next (v ∷ uses) (suc n) u at = ap (λ us. v ∷ us) (take_next uses n u at)

uses_around : (uses : List Use) (n : ℕ) (u : Use) → slice_get uses n ≡ Some u → uses ≡ take n uses ++ u ∷ drop (suc n) uses
uses_around [] n u at = absurd (none_some u at)
uses_around (v ∷ uses) zero u at = ap (λ w. w ∷ uses) (some_same v u at)
uses_around (v ∷ uses) (suc n) u at = ap (λ us. v ∷ us) (uses_around uses n u at)

-- a first place among later items is one further from the front
later_first : (m : Matrix) (ms : List Matrix) (i n : ℕ) → is_some (beside_first (m ∷ ms) (cond (nat_lt (1 + i) (suc n)) (Some (1 + i)) None)) ≡ is_some (beside_first ms (cond (nat_lt i n) (Some i) None))
later_first m ms i n = ap (λ b. is_some (beside_first (m ∷ ms) (cond b (Some (1 + i)) None))) tests ∙ at (nat_lt i n)
  where
    tests : nat_lt (1 + i) (suc n) ≡ nat_lt i n
    tests = grind (arith, nat_tests)

    next : 1 + i ≡ suc i
    next = omega arith

    at : (inside : Bool) → is_some (beside_first (m ∷ ms) (cond inside (Some (1 + i)) None)) ≡ is_some (beside_first ms (cond inside (Some i) None))
    at true = ap (λ k. is_some (slice_get (m ∷ ms) k)) next
    at false = refl

none_beside : (first : Option ℕ) → is_some (beside_first [] first) ≡ false
none_beside None = refl
none_beside (Some i) = refl

one_beside : (m : Matrix) (ms : List Matrix) (here more : Bool) (i n : ℕ) → is_some (beside_first ms (cond (nat_lt i n) (Some i) None)) ≡ more →
    is_some (beside_first (m ∷ ms) (cond (nat_lt (cond (not here) (1 + i) 0) (suc n)) (Some (cond (not here) (1 + i) 0)) None)) ≡ (here || more)
one_beside m ms true more i n is = ap (λ b. is_some (beside_first (m ∷ ms) (cond b (Some 0) None))) (lt-ltb 0 (suc n) (omega arith))
one_beside m ms false more i n is = later_first m ms i n ∙ is

-- a file has a matrix beside its first use where that is one of the uses so far
known_is : (name : List ℕ) (uses : List Use) (ms : List Matrix) → is_known uses ms name ≡ list_any (is_of name) (take (length ms) uses)
known_is name [] [] = refl
known_is name [] (m ∷ ms) = refl
known_is name (u ∷ uses) [] = none_beside (position (is_of name) (u ∷ uses))
known_is name (u ∷ uses) (m ∷ ms) =
    one_beside m ms (is_of name u) (list_any (is_of name) (take (length ms) uses)) (position_or_len (is_of name) uses) (length uses) (known_is name uses ms)

-- one more use has its matrix
weight_next : (files : Files) (weight : ℕ) (uses : List Use) (ms : List Matrix) (now : ℕ) (u : Use) (l : Loaded) (known : Bool) →
    IsServedSoFar files weight uses ms now → slice_get uses (length ms) ≡ Some u → list_any (is_of (file_of u)) (take (length ms) uses) ≡ known →
    Serves files uses now (file_of u) known (Ok l) → weight_after files uses weight (mentioned (take (length ms) uses ++ u ∷ [])) ≡ Ok l.weight
weight_next files weight uses ms now u l true so_far at is goes =
    ap (weight_after files uses weight) (mentioned_again (take (length ms) uses) u is) ∙ so_far.weight_is ∙ ap (λ w. Ok w) (sym goes.1)
weight_next files weight uses ms now u l false so_far at is goes =
    ap (weight_after files uses weight) (mentioned_first (take (length ms) uses) u is)
    ∙ weight_more files uses weight now (mentioned (take (length ms) uses)) (file_of u) (Ok l.weight) so_far.weight_is goes.1

next_served : (files : Files) (uses : List Use) (now : ℕ) (name : List ℕ) (l : Loaded) (known : Bool) → Serves files uses now name known (Ok l) → served files uses name ≡ Ok l.matrix
next_served files uses now name l true goes = goes.0
next_served files uses now name l false goes = goes.0

pub served_more : (files : Files) (weight : ℕ) (uses : List Use) (ms : List Matrix) (now : ℕ) (u : Use) (l : Loaded) →
    IsServedSoFar files weight uses ms now → slice_get uses (length ms) ≡ Some u → Serves files uses now (file_of u) (is_known uses ms (file_of u)) (Ok l) → IsServedSoFar files weight uses (ms ++ l.matrix ∷ []) l.weight
served_more files weight uses ms now u l so_far at goes =
    let more : take (length (ms ++ l.matrix ∷ [])) uses ≡ take (length ms) uses ++ u ∷ [] =
    ap (λ n. take n uses) (length-append ms (l.matrix ∷ []) ∙ add-one (length ms)) ∙ take_next uses (length ms) u at in
    record {
      served = beside_more (IsServed files uses) uses ms u l.matrix so_far.served at (next_served files uses now (file_of u) l (is_known uses ms (file_of u)) goes);
      weight_is =
          ap (λ us. weight_after files uses weight (mentioned us)) more
          ∙ weight_next files weight uses ms now u l (is_known uses ms (file_of u)) so_far at (sym (known_is (file_of u) uses ms)) goes;
    }

-- loading stops at the next use
stops_next : (files : Files) (weight : ℕ) (uses : List Use) (ms : List Matrix) (now : ℕ) (u : Use) (fault : LoadError) (known : Bool) →
    IsServedSoFar files weight uses ms now → slice_get uses (length ms) ≡ Some u → list_any (is_of (file_of u)) (take (length ms) uses) ≡ known →
    Serves files uses now (file_of u) known (Err fault) → LoadsUses files weight uses (Err fault)
stops_next files weight uses ms now u (e.Refused r) true so_far at is goes = absurd cc
stops_next files weight uses ms now u (e.ReadFault file) true so_far at is goes = absurd cc
stops_next files weight uses ms now u e.NoMemory known so_far at is goes = tt
stops_next files weight uses ms now u (e.Refused r) false so_far at is goes =
    let rest = around (take (length ms) uses) (drop (suc (length ms)) uses) uses u (uses_around uses (length ms) u at) is in
    ap (stops files uses weight) rest.are ∙ stops_at files uses weight now (mentioned (take (length ms) uses)) rest.later (file_of u) (Refused r) so_far.weight_is goes
stops_next files weight uses ms now u (e.ReadFault file) false so_far at is goes =
    let rest = around (take (length ms) uses) (drop (suc (length ms)) uses) uses u (uses_around uses (length ms) u at) is in
    record {
      before = mentioned (take (length ms) uses);
      later = rest.later;
      are = rest.are ∙ ap (λ n. mentioned (take (length ms) uses) ++ n ∷ rest.later) (sym goes);
      fine = ap stop_of so_far.weight_is;
    }

pub use_stops : (files : Files) (weight : ℕ) (uses : List Use) (ms : List Matrix) (now : ℕ) (u : Use) (fault : LoadError) →
    IsServedSoFar files weight uses ms now → slice_get uses (length ms) ≡ Some u → Serves files uses now (file_of u) (is_known uses ms (file_of u)) (Err fault) → LoadsUses files weight uses (Err fault)
use_stops files weight uses ms now u fault so_far at goes =
    stops_next files weight uses ms now u fault (is_known uses ms (file_of u)) so_far at (sym (known_is (file_of u) uses ms)) goes

-- the first rule that is broken is none where each is none
pub none_first : (one two : Option Rule) → first_of one two ≡ None → (one ≡ None) × (two ≡ None)
none_first None two is = (refl, is)
none_first (Some rule) two is = absurd cc

-- a matrix that breaks no rule in a use suits it
pub suits : (m : Matrix) (u : Use) → broken_rule m u ≡ None → Suits u m
suits m (by.Order file rows) is = is
suits m (by.Place file extent ranks) is = is
suits m (by.Array file rows cols diagonals) is = at (has_sizes rows cols m) refl (none_first (sizes_rule rows cols m) (astray_rule diagonals m) is).0
  where
    at : (same : Bool) → has_sizes rows cols m ≡ same → (if same then None else Some F1) ≡ None → (m.rows ≡ rows) × (m.cols ≡ cols)
    at true both is = let parts = and_parts (m.rows == rows) (m.cols == cols) both in ((Decides-eqb m.rows rows).0 parts.0, (Decides-eqb m.cols cols).0 parts.1)
    at false both is = absurd cc

own_fits : (u : Use) (m : Matrix) → broken_in (file_of u) m u ≡ None → broken_rule m u ≡ None
own_fits u m is =
    let own : is_of (file_of u) u ≡ true = (bytes_eq-Decides (file_of u) (file_of u)).1 refl in
    subst (λ b. (if b then broken_rule m u else None) ≡ None) own is

-- these uses are the last of all, so what breaks no rule in all breaks none in them, and no file has more uses in them
record AreLast (all uses : List Use) : Type 0 where
  pub fits : (name : List ℕ) (m : Matrix) → first_broken name m all ≡ None → first_broken name m uses ≡ None
  pub fewer : (name : List ℕ) → count_by (is_of name) uses ≤ count_by (is_of name) all

later_last : (all uses : List Use) (u : Use) → AreLast all (u ∷ uses) → AreLast all uses
later_last all uses u last = record {
  fits = λ name m fits. (none_first (broken_in name m u) (first_broken name m uses) (last.fits name m fits)).1;
  fewer = λ name.
      let more : count_by (is_of name) (u ∷ uses) ≡ cond (is_of name u) 1 0 + count_by (is_of name) uses = sum_by-cons (λ w. cond (is_of name w) 1 0) u uses in
      let below = last.fewer name in omega (arith, more, below);
}

-- a file has a use that is its own
some_use : (all uses : List Use) (u : Use) → AreLast all (u ∷ uses) → 1 ≤ count_by (is_of (file_of u)) all
some_use all uses u last =
    let own : count_by (is_of (file_of u)) (u ∷ uses) ≡ 1 + count_by (is_of (file_of u)) uses =
    sum_by-cons (λ w. cond (is_of (file_of u) w) 1 0) u uses ∙ ap (λ b. cond b 1 0 + count_by (is_of (file_of u)) uses) ((bytes_eq-Decides (file_of u) (file_of u)).1 refl) in
    let below = last.fewer (file_of u) in omega (arith, own, below)

-- a product is no less than a factor where the other one is not 0
no_less : (count entries : ℕ) → 1 ≤ count → entries ≤ count * entries
no_less zero entries some = absurd (omega (arith, some))
no_less (suc count) entries some = omega arith

of_first : (all uses : List Use) (u : Use) (m : Matrix) → AreLast all (u ∷ uses) → first_broken (file_of u) m all ≡ None → broken_rule m u ≡ None
of_first all uses u m last fits = own_fits u m (none_first (broken_in (file_of u) m u) (first_broken (file_of u) m uses) (last.fits (file_of u) m fits)).0

are_for_uses : (weight : ℕ) (all uses : List Use) (ms : List Matrix) → AreLast all uses → Beside (IsFitFor weight all) uses ms → length ms ≡ length uses → AllZip IsForUse uses ms
are_for_uses weight all [] [] last beside same = tt
are_for_uses weight all [] (m ∷ ms) last beside same = absurd beside
are_for_uses weight all (u ∷ uses) [] last beside same = absurd (omega (arith, same))
are_for_uses weight all (u ∷ uses) (m ∷ ms) last beside same = (
  record {
    matrix = beside.0.matrix;
    fits = of_first all uses u m last beside.0.fits;
    light = let less = no_less (count_by (is_of (file_of u)) all) (length m.entries) (some_use all uses u last) in let most = beside.0.light in omega (arith, less, most);
  },
  are_for_uses weight all uses ms (later_last all uses u last) beside.1 (omega (arith, same)),
)

-- each use has a matrix that suits it
pub all_for_uses : (weight : ℕ) (uses : List Use) (ms : List Matrix) → Beside (IsFitFor weight uses) uses ms → length ms ≡ length uses → AllZip IsForUse uses ms
all_for_uses weight uses ms beside same = are_for_uses weight uses uses ms (record { fits = λ name m fits. fits; fewer = λ name. omega arith }) beside same

-- and keeps the limit beside the weight of the arrays
have_room : (weight : ℕ) (all uses : List Use) (ms : List Matrix) → AreLast all uses → Beside (IsFitFor weight all) uses ms → All (HasRoom weight) ms
have_room weight all uses [] last beside = All-nil (HasRoom weight)
have_room weight all [] (m ∷ ms) last beside = absurd beside
have_room weight all (u ∷ uses) (m ∷ ms) last beside =
    let less = no_less (count_by (is_of (file_of u)) all) (length m.entries) (some_use all uses u last) in
    let most = beside.0.light in All-cons (HasRoom weight) m ms (omega (arith, less, most)) (have_room weight all uses ms (later_last all uses u last) beside.1)

pub all_have_room : (weight : ℕ) (uses : List Use) (ms : List Matrix) → Beside (IsFitFor weight uses) uses ms → All (HasRoom weight) ms
all_have_room weight uses ms beside = have_room weight uses uses ms (record { fits = λ name m fits. fits; fewer = λ name. omega arith }) beside

-- a matrix with which a file serves all of its uses is that of each of them
of_use : (files : Files) (all uses : List Use) (u : Use) (m : Matrix) → AreLast all (u ∷ uses) → served files all (file_of u) ≡ Ok m → IsOfUse files u m
of_use files all uses u m last is = there (bytes_of files (file_of u)) refl is
  where
    fits : (bytes : List ℕ) (n : Matrix) (broken : Option Rule) → bytes_of files (file_of u) ≡ Some bytes → mm bytes ≡ Ok n → first_broken (file_of u) n all ≡ broken →
        judged (file_of u) n broken ≡ Ok m → IsOfUse files u m
    fits bytes n None at reads none is =
        let same : n ≡ m = cc in
        record { bytes = bytes; there = at; read = reads ∙ ap (λ k. Ok k) same; suits = subst (λ k. Suits u k) same (suits n u (of_first all uses u n last none)) }
    fits bytes n (Some rule) at reads broken is = absurd cc

    read : (bytes : List ℕ) (result : Result Matrix Fault) → bytes_of files (file_of u) ≡ Some bytes → mm bytes ≡ result → has all (file_of u) result ≡ Ok m → IsOfUse files u m
    read bytes (Ok n) at reads is = fits bytes n (first_broken (file_of u) n all) at reads refl is
    read bytes (Err fault) at reads is = absurd cc

    there : (bytes : Option (List ℕ)) → bytes_of files (file_of u) ≡ bytes → found all (file_of u) bytes ≡ Ok m → IsOfUse files u m
    there None at is = absurd cc
    there (Some bytes) at is = read bytes (mm bytes) at refl is

are_of_uses : (files : Files) (all uses : List Use) (ms : List Matrix) → AreLast all uses → Beside (IsServed files all) uses ms → length ms ≡ length uses → AllZip (IsOfUse files) uses ms
are_of_uses files all [] [] last beside same = tt
are_of_uses files all [] (m ∷ ms) last beside same = absurd beside
are_of_uses files all (u ∷ uses) [] last beside same = absurd (omega (arith, same))
are_of_uses files all (u ∷ uses) (m ∷ ms) last beside same = (
  of_use files all uses u m last beside.0,
  are_of_uses files all uses ms (later_last all uses u last) beside.1 (omega (arith, same)),
)

-- all uses are served
pub uses_done : (files : Files) (weight : ℕ) (uses : List Use) (ms : List Matrix) (now : ℕ) → IsServedSoFar files weight uses ms now → length ms ≡ length uses → LoadsUses files weight uses (Ok ms)
uses_done files weight uses ms now so_far same =
    let all : take (length ms) uses ≡ uses = ap (λ n. take n uses) same ∙ take-length uses in (
      ap stop_of (ap (λ us. weight_after files uses weight (mentioned us)) (sym all) ∙ so_far.weight_is),
      are_of_uses files uses uses ms (record { fits = λ name m fits. fits; fewer = λ name. omega arith }) so_far.served same,
    )

-- the use at the number of the matrices so far
pub next_use : (items uses : List Use) (i n : ℕ) (u : Use) → items ≡ uses → n ≡ i → i < length items → u ≡ get_or items i u → slice_get uses n ≡ Some u
next_use items uses i n u same count inside is =
    ap (λ k. slice_get uses k) count ∙ ap (λ us. slice_get us i) (sym same) ∙ slice_get_read items (length items) i u refl inside is

-- at the end of the uses there are as many matrices
pub all_counted : (items uses : List Use) (i n : ℕ) → items ≡ uses → n ≡ i → i ≤ length items → length items ≤ i → n ≡ length uses
all_counted items uses i n same count within past = omega (arith, count, within, past, ap length same)
