-- Lines that are marked one entry after another.
use Rattle.std.proofs.Common.{◌≡◌, ℕ, zero, suc, ◌+◌, ◌<◌, Bool, true, false, cond, ◌||◌, ◌==◌, List, ◌∷◌, length, map, take, get_or, set, ⊎_elim, refl, sym, ap, ◌∙◌, subst, arith, length-set, get_or-set_same, get_or-set_other}
use Rattle.std.specs.List.{filter, list_any, range_with_len}
use Rattle.std.proofs.lemmas.Bool.{eq-eqb, ne_eqb, cases_eq}
use Rattle.std.proofs.lemmas.List.Folds.{list_any_more}
use Rattle.std.proofs.lemmas.List.FromFn.{fill_by_all}
use Rattle.bern_base.specs.declared.axes.Axis.{Axis}
use Rattle.bern_base.specs.declared.axes.Axis.TheVariants as axis
use Rattle.bern_base.specs.declared.matrix.Entry.{Entry}
use Rattle.bern_base.specs.Matrix.{IsInside}
use Rattle.std.proofs.lemmas.Nat.{row_fits}
use Rattle.format_model.specs.Axes.{extent_of, index_of}
use Rattle.format_model.specs.Content.{is_filled}

-- these lines are marked that have one of these entries
abbrev pub AreMarked : Axis → ℕ → List Entry → List Bool → Type 0
AreMarked a cols entries marks = (l : ℕ) → l < length marks → get_or marks l false ≡ is_filled a cols entries l

or_true : (b : Bool) → (b || true) ≡ true
or_true true = refl
or_true false = refl

or_false : (b : Bool) → (b || false) ≡ b
or_false true = refl
or_false false = refl

-- the index of an entry of a matrix is one of its axis
pub index_inside : (a : Axis) (rows cols : ℕ) (e : Entry) → IsInside rows cols e → index_of a cols e < extent_of a rows cols
index_inside axis.Row rows cols e inside = inside.0
index_inside axis.Col rows cols e inside = inside.1
index_inside axis.Both rows cols e inside = let fits = row_fits e.row cols rows cols inside.0 (omega arith) in omega (arith, fits, inside.1)

pub marked_more : (a : Axis) (cols : ℕ) (entries : List Entry) (marks : List Bool) (i : ℕ) (e d : Entry) → i < length entries → get_or entries i d ≡ e → index_of a cols e < length marks →
    AreMarked a cols (take i entries) marks → AreMarked a cols (take (i + 1) entries) (set marks (index_of a cols e) true)
marked_more a cols entries marks i e d below at within before l inside =
    let index : ℕ = index_of a cols e in
    let test : Entry → Bool = λ x. index_of a cols x == l in
    let more : list_any test (take (i + 1) entries) ≡ (list_any test (take i entries) || test e) =
    list_any_more test entries i d below ∙ ap (λ x. list_any test (take i entries) || test x) at in ⊎_elim
    (λ (here : l ≡ index).
    ap (λ k. get_or (set marks index true) k false) here ∙ get_or-set_same marks index true false within ∙ sym (more ∙ ap (λ b. list_any test (take i entries) || b) (eq-eqb index l (sym here)) ∙ or_true (list_any test (take i entries))))
    (λ (other : l ≡ index → ⊥).
    get_or-set_other marks index l true false other ∙ before l (subst (λ n. l < n) (length-set marks index true) inside) ∙ sym (more ∙ ap (λ b. list_any test (take i entries) || b) (ne_eqb index l (λ same. other (sym same))) ∙ or_false (list_any test (take i entries))))
    (cases_eq l index)

-- marks that are made by a test: as many are true as pass
count_made : (test : ℕ → Bool) (a n : ℕ) → length (filter (λ mark. mark) (map test (range_with_len a n))) ≡ length (filter test (range_with_len a n))
count_made test a zero = refl
count_made test a (suc n) =
    let marks : List Bool = filter (λ mark. mark) (map test (range_with_len (a + 1) n)) in
    let rest : List ℕ = filter test (range_with_len (a + 1) n) in
    let alike : (b : Bool) → length (cond b (b ∷ marks) marks) ≡ length (cond b (a ∷ rest) rest) =
    elim [ true ↦ ap suc (count_made test (a + 1) n) | false ↦ count_made test (a + 1) n ] in alike (test a)

pub count_marked : (a : Axis) (cols n : ℕ) (entries : List Entry) →
    length (filter (λ mark. mark) (map (is_filled a cols entries) (range_with_len 0 n))) ≡ length (filter (is_filled a cols entries) (range_with_len 0 n))
count_marked a cols n entries = count_made (is_filled a cols entries) 0 n

-- when all entries have been marked, the marks are the lines' answers
pub all_marked : (a : Axis) (cols n : ℕ) (entries : List Entry) (marks : List Bool) → length marks ≡ n → AreMarked a cols entries marks → marks ≡ map (is_filled a cols entries) (range_with_len 0 n)
all_marked a cols n entries marks long marked = fill_by_all (is_filled a cols entries) marks n false long (λ k below. marked k (subst (λ m. k < m) (sym long) below))
