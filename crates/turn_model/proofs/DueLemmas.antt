-- Values are due exactly where some element is asked for.
use Rattle.std.proofs.Common.{◌≡◌, ◌==◌, ℕ, true, false, List, [], ◌∷◌, ◌++◌, ◌↔◌, None, length, filter, map, refl, sym, ap, inl, inr}
use Rattle.std.proofs.lemmas.Bool.{cases_Bool, cases_eq, false≢true, eq-eqb, ne_eqb}
use Rattle.std.proofs.lemmas.List.{nil_from_length}
use Rattle.bern_base.specs.declared.letter.NeedSet.{NeedSet}
use Rattle.job_model.specs.State.{State, read}
use Rattle.turn_model.specs.Schedules.{some_values, values_letter}
use Rattle.turn_model.specs.Runs.{Run, all_values, asked, is_for, nest_at, schedule, set_values, some_due}

-- no letter exactly where there are no values
no_letter : (t : ℕ) (xs : List ℕ) → (some_values t xs ≡ None) ↔ (xs ≡ [])
no_letter t [] = (λ e. refl, λ e. refl)
no_letter t (x ∷ xs) = (λ e. absurd (cc), λ e. absurd (cc))

-- a set either has an element for the nest, or adds no value
map_nil : (f : ℕ → ℕ) (xs : List ℕ) → length xs ≡ 0 → map f xs ≡ []
map_nil f xs none = ap (map f) (nil_from_length xs none)

map_some : (f : ℕ → ℕ) (xs : List ℕ) → (length xs ≡ 0 → ⊥) → map f xs ≡ [] → ⊥
map_some f [] some none = some refl
map_some f (x ∷ xs) some none = absurd (cc)

first_nil : {A : Type 0} (xs ys : List A) → xs ++ ys ≡ [] → xs ≡ []
first_nil [] ys none = refl
first_nil (x ∷ xs) ys none = absurd (cc)

-- nothing is due where no set has an element for the nest, and something where one has
none_due : (state : State) (nest : ℕ) (sets : List NeedSet) → some_due nest sets ≡ false → all_values state (filter (is_for nest) sets) ≡ []
none_due state nest [] none = refl
none_due state nest (set ∷ sets) none =
    elim (cases_Bool (set.nest == nest)) [
      | inl here ↦ elim (cases_eq (length set.elements) 0) [
        | inl empty ↦
            let rest : some_due nest sets ≡ false = rw (← none, here, eq-eqb (length set.elements) 0 empty) refl in
            rw (here, map_nil (read state set.array) set.elements empty) (none_due state nest sets rest)
        | inr some ↦ absurd (let due : true ≡ false = rw (← none, here, ne_eqb (length set.elements) 0 some) refl in false≢true (sym due))
      ]
      | inr other ↦
          let rest : some_due nest sets ≡ false = rw (← none, other) refl in
          rw other (none_due state nest sets rest)
    ]

some_due_values : (state : State) (nest : ℕ) (sets : List NeedSet) → some_due nest sets ≡ true → all_values state (filter (is_for nest) sets) ≡ [] → ⊥
some_due_values state nest [] some none = false≢true some
some_due_values state nest (set ∷ sets) some none =
    elim (cases_Bool (set.nest == nest)) [
      | inl here ↦
          let whole : set_values state set ++ all_values state (filter (is_for nest) sets) ≡ [] = rw (← none, here) refl in
          elim (cases_eq (length set.elements) 0) [
            | inl empty ↦
                let rest : some_due nest sets ≡ true = rw (← some, here, eq-eqb (length set.elements) 0 empty) refl in
                let further : all_values state (filter (is_for nest) sets) ≡ [] = rw (← whole, map_nil (read state set.array) set.elements empty) refl in
                some_due_values state nest sets rest further
            | inr few ↦ map_some (read state set.array) set.elements few (first_nil (set_values state set) (all_values state (filter (is_for nest) sets)) whole)
          ]
      | inr other ↦
          let rest : some_due nest sets ≡ true = rw (← some, other) refl in
          let further : all_values state (filter (is_for nest) sets) ≡ [] = rw (← none, other) refl in
          some_due_values state nest sets rest further
    ]

-- the letter of a turn
pub due-none : (run : Run) (t p q : ℕ) → some_due (nest_at run t) (asked run q p) ≡ false → values_letter (schedule run) t p q ≡ None
due-none run t p q none = (no_letter t (all_values (run.state t) (filter (is_for (nest_at run t)) (asked run q p)))).1 (none_due (run.state t) (nest_at run t) (asked run q p) none)

pub due-some : (run : Run) (t p q : ℕ) → some_due (nest_at run t) (asked run q p) ≡ true → values_letter (schedule run) t p q ≡ None → ⊥
due-some run t p q some none =
    let values = all_values (run.state t) (filter (is_for (nest_at run t)) (asked run q p)) in
    some_due_values (run.state t) (nest_at run t) (asked run q p) some ((no_letter t values).0 none)

pub due-is : (run : Run) (t p q : ℕ) → (values_letter (schedule run) t p q ≡ None) ↔ (some_due (nest_at run t) (asked run q p) ≡ false)
due-is run t p q = (
  λ none. elim (cases_Bool (some_due (nest_at run t) (asked run q p))) [
    | inl some ↦ absurd (due-some run t p q some none)
    | inr silent ↦ silent
  ],
  due-none run t p q,
)
