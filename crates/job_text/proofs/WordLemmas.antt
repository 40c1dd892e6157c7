-- Words: names, numbers, axes and levels; what is read is spelled so, and what is spelled so is read.
use Rattle.std.proofs.Common.{◌≡◌, ◌⊎◌, ℕ, ◌<◌, ◌^◌, Bool, true, false, cond, Option, Some, None, option_map, List, [], ◌∷◌, ◌&&◌, refl, sym, ap, subst, ◌∙◌, inl, inr, ⊎_elim}
use Rattle.std.specs.Prelude.{codes}
use Rattle.std.specs.Str.{bytes_eq}
use Rattle.std.specs.Str.Parse.{digits_value}
use Rattle.std.proofs.lemmas.Slice.Eq.{bytes_eq-Decides}
use Rattle.std.proofs.lemmas.Option.{same_Some, cond_some}
use Rattle.std.proofs.lemmas.Bool.{cases_Bool, cond-true, cond-false, false≢true}
use Rattle.bern_base.specs.declared.axes.Axis.{Axis}
use Rattle.bern_base.specs.declared.axes.Axis.TheVariants as axis
use Rattle.bern_base.specs.declared.raw.RawShape.{RawShape}
use Rattle.bern_base.specs.declared.raw.RawShape.TheVariants as shape
use Rattle.job_text.specs.Names.{is_name, is_file_name, IsNumber, is_numeral}
use Rattle.job_text.specs.Reading.{value_of, number_of}
use Rattle.job_text.specs.Forms.{IsName, IsFileName, IsAxis, IsInnerAxis, AreLevels}
use Rattle.job_text.specs.WordReading.{name_of, file_of, axis_of, is_inner, under_dense, under_packed, two_of, one_of, inner_of, axes_of, are_permuted, permute_of, jagged_of}
use Rattle.job_text.proofs.NumberLemmas.{limited-fits, limited-some}
use Rattle.job_text.proofs.TokenLemmas.{mapped-some}
use Rattle.job_text.proofs.SumLemmas.{bound-some}

pub same_word : (word other : List ℕ) → bytes_eq word other ≡ true → word ≡ other
same_word word other is = (bytes_eq-Decides word other).0 is

-- what an answer under a test on a word says of the word
pub by_word : {A : Type 0} (word other : List ℕ) (found rest : Option A) (y : A) → cond (bytes_eq word other) found rest ≡ Some y → ((word ≡ other) × (found ≡ Some y)) ⊎ (rest ≡ Some y)
by_word word other found rest y is = ⊎_elim
    (λ yes. inl (same_word word other yes, sym (cond-true _ found rest yes) ∙ is))
    (λ differs. inr (sym (cond-false _ found rest differs) ∙ is))
    (cases_Bool (bytes_eq word other))

-- the same, where nothing is read elsewhere
pub only_word : {A : Type 0} (word other : List ℕ) (found : Option A) (y : A) → cond (bytes_eq word other) found None ≡ Some y → (word ≡ other) × (found ≡ Some y)
only_word word other found y is = ⊎_elim (λ yes. yes) (λ none. absurd cc) (by_word word other found None y is)

pub sound_name : (word name : List ℕ) → name_of word ≡ Some name → (word ≡ name) × IsName name
sound_name word name is = let found = cond_some (is_name word) word name is in (found.1, subst (λ w. is_name w ≡ true) found.1 found.0)

pub complete_name : (name : List ℕ) → IsName name → name_of name ≡ Some name
complete_name name is = cond-true _ _ _ is

pub sound_file : (word file : List ℕ) → file_of word ≡ Some file → (word ≡ file) × IsFileName file
sound_file word file is = let found = cond_some (is_file_name word) word file is in (found.1, subst (λ w. is_file_name w ≡ true) found.1 found.0)

pub complete_file : (file : List ℕ) → IsFileName file → file_of file ≡ Some file
complete_file file is = cond-true _ _ _ is

pub sound_number : (word : List ℕ) (n : ℕ) → number_of word ≡ Some n → IsNumber n word
sound_number word n is = ⊎_elim
    (λ digits. let value = limited-some (2 ^ 64) (digits_value 10 word) n (sym (cond-true _ (value_of word) None digits) ∙ is) in
    record { digits = digits; value = value.0; fits = rw value.0 value.1 })
    (λ other. absurd (let e = cond-false _ (value_of word) None other in cc))
    (cases_Bool (is_numeral word))

pub complete_number : (word : List ℕ) (n : ℕ) → IsNumber n word → number_of word ≡ Some n
complete_number word n is = cond-true _ (value_of word) None is.digits ∙ sym (limited-fits (2 ^ 64) (digits_value 10 word) (subst (λ k. k < 2 ^ 64) is.value is.fits)) ∙ ap Some (sym is.value)

pub sound_axis : (word : List ℕ) (a : Axis) → axis_of word ≡ Some a → IsAxis a word
sound_axis word a is = ⊎_elim
    (λ row. subst (λ x. IsAxis x word) (same_Some axis.Row a row.1) row.0)
    (λ rest. let col = only_word word (codes "col") (Some axis.Col) a rest in subst (λ x. IsAxis x word) (same_Some axis.Col a col.1) col.0)
    (by_word word (codes "row") (Some axis.Row) (cond (bytes_eq word (codes "col")) (Some axis.Col) None) a is)

pub complete_axis : (word : List ℕ) (a : Axis) → IsAxis a word → axis_of word ≡ Some a
complete_axis word axis.Row is = ap axis_of is
complete_axis word axis.Col is = ap axis_of is
complete_axis word axis.Both is = absurd is

sound_inner : (word : List ℕ) (a : Axis) → is_inner a word ≡ true → IsInnerAxis a word
sound_inner word axis.Row is = same_word word (codes "col") is
sound_inner word axis.Col is = same_word word (codes "row") is
sound_inner word axis.Both is = absurd (false≢true is)

complete_inner : (word : List ℕ) (a : Axis) → IsInnerAxis a word → is_inner a word ≡ true
complete_inner word axis.Row is = ap (is_inner axis.Row) is
complete_inner word axis.Col is = ap (is_inner axis.Col) is
complete_inner word axis.Both is = absurd is

pub both_true : (a b : Bool) → (a && b) ≡ true → (a ≡ true) × (b ≡ true)
both_true true b is = (refl, is)
both_true false b is = absurd (false≢true is)

-- two levels, from their words
sound_two : (outer : Axis) (a first b second : List ℕ) (s : RawShape) → IsAxis outer a → IsInnerAxis outer b → two_of outer first second ≡ Some s → AreLevels s (a ∷ first ∷ codes ">" ∷ b ∷ second ∷ [])
sound_two outer a first b second s is_outer is_inside is = ⊎_elim
    (λ dense. ⊎_elim
    (λ last. subst (λ x. AreLevels x (a ∷ first ∷ codes ">" ∷ b ∷ second ∷ [])) (same_Some (shape.DenseDense outer) s last.1)
    (a, b, spelled (codes "dense") (codes "dense") dense.0 last.0, is_outer, is_inside))
    (λ rest. let last = only_word second (codes "packed") (Some (shape.DensePacked outer)) s rest in
    subst (λ x. AreLevels x (a ∷ first ∷ codes ">" ∷ b ∷ second ∷ [])) (same_Some (shape.DensePacked outer) s last.1)
    (a, b, spelled (codes "dense") (codes "packed") dense.0 last.0, is_outer, is_inside))
    (by_word second (codes "dense") (Some (shape.DenseDense outer)) (cond (bytes_eq second (codes "packed")) (Some (shape.DensePacked outer)) None) s dense.1))
    (λ rest. let packed = only_word first (codes "packed") (under_packed outer second) s rest in
    let last = only_word second (codes "packed") (Some (shape.PackedPacked outer)) s packed.1 in
    subst (λ x. AreLevels x (a ∷ first ∷ codes ">" ∷ b ∷ second ∷ [])) (same_Some (shape.PackedPacked outer) s last.1)
    (a, b, spelled (codes "packed") (codes "packed") packed.0 last.0, is_outer, is_inside))
    (by_word first (codes "dense") (under_dense outer second) (cond (bytes_eq first (codes "packed")) (under_packed outer second) None) s is)
  where
    spelled : (f g : List ℕ) → first ≡ f → second ≡ g → ◌≡◌ {A = List (List ℕ)} (a ∷ first ∷ codes ">" ∷ b ∷ second ∷ []) (a ∷ f ∷ codes ">" ∷ b ∷ g ∷ [])
    spelled f g one two = ap (λ w. a ∷ w ∷ codes ">" ∷ b ∷ second ∷ []) one ∙ ap (λ w. a ∷ f ∷ codes ">" ∷ b ∷ w ∷ []) two

sound_one : (first level : List ℕ) (s : RawShape) → first ≡ codes "row" → one_of level ≡ Some s → AreLevels s (first ∷ level ∷ [])
sound_one first level s row is = ⊎_elim
    (λ dense. subst (λ x. AreLevels x (first ∷ level ∷ [])) (same_Some shape.DenseOne s dense.1) (spelled (codes "dense") dense.0))
    (λ rest. ⊎_elim
    (λ packed. subst (λ x. AreLevels x (first ∷ level ∷ [])) (same_Some shape.PackedOne s packed.1) (spelled (codes "packed") packed.0))
    (λ more. let last = only_word level (codes "list") (Some shape.ListOne) s more in
    subst (λ x. AreLevels x (first ∷ level ∷ [])) (same_Some shape.ListOne s last.1) (spelled (codes "list") last.0))
    (by_word level (codes "packed") (Some shape.PackedOne) (cond (bytes_eq level (codes "list")) (Some shape.ListOne) None) s rest))
    (by_word level (codes "dense") (Some shape.DenseOne) (cond (bytes_eq level (codes "packed")) (Some shape.PackedOne) (cond (bytes_eq level (codes "list")) (Some shape.ListOne) None)) s is)
  where
    spelled : (l : List ℕ) → level ≡ l → ◌≡◌ {A = List (List ℕ)} (first ∷ level ∷ []) (codes "row" ∷ l ∷ [])
    spelled l is = ap (λ w. w ∷ level ∷ []) row ∙ ap (λ w. codes "row" ∷ w ∷ []) is

pub sound_axes : (ws : List (List ℕ)) (s : RawShape) → axes_of ws ≡ Some s → AreLevels s ws
unfolding axes_of
sound_axes (first ∷ level ∷ []) s is = let row = only_word first (codes "row") (one_of level) s is in sound_one first level s row.0 row.1
sound_axes (first ∷ second ∷ level ∷ []) s is =
    let test = cond_some (bytes_eq first (codes "row") && bytes_eq second (codes "col") && bytes_eq level (codes "list")) shape.ListTwo s is in
    let parts = both_true (bytes_eq first (codes "row") && bytes_eq second (codes "col")) (bytes_eq level (codes "list")) test.0 in
    let more = both_true (bytes_eq first (codes "row")) (bytes_eq second (codes "col")) parts.0 in
    subst (λ x. AreLevels x (first ∷ second ∷ level ∷ [])) test.1
    (ap (λ w. w ∷ second ∷ level ∷ []) (same_word first _ more.0) ∙ ap (λ w. codes "row" ∷ w ∷ level ∷ []) (same_word second _ more.1) ∙ ap (λ w. codes "row" ∷ codes "col" ∷ w ∷ []) (same_word level _ parts.1))
sound_axes (outer ∷ first ∷ above ∷ inner ∷ second ∷ []) s is =
    let read = bound-some (inner_of first above inner second) (axis_of outer) s is in
    let test = ⊎_elim (λ yes. let y : (bytes_eq above (codes ">") && is_inner read.0 inner ≡ true) × (two_of read.0 first second ≡ Some s) = (yes, sym (cond-true _ (two_of read.0 first second) None yes) ∙ read.2) in y) (λ differs. absurd (let e = cond-false _ (two_of read.0 first second) None differs in let r = read.2 in cc)) (cases_Bool (bytes_eq above (codes ">") && is_inner read.0 inner)) in
    let parts = both_true (bytes_eq above (codes ">")) (is_inner read.0 inner) test.0 in
    subst (λ w. AreLevels s (outer ∷ first ∷ w ∷ inner ∷ second ∷ [])) (sym (same_word above (codes ">") parts.0))
    (sound_two read.0 outer first inner second s (sound_axis outer read.0 read.1) (sound_inner inner read.0 parts.1) test.1)
sound_axes ws s is = absurd cc

pub sound_permute : (ws : List (List ℕ)) (s : RawShape) → permute_of ws ≡ Some s → AreLevels s (codes "permute" ∷ ws)
unfolding permute_of
sound_permute (file ∷ outer ∷ first ∷ above ∷ inner ∷ second ∷ []) s is =
    let test = ⊎_elim (λ yes. let y : (are_permuted outer first above inner second ≡ true) × (option_map shape.Permute (file_of file) ≡ Some s) = (yes, sym (cond-true _ (option_map shape.Permute (file_of file)) None yes) ∙ is) in y) (λ differs. absurd (let e = cond-false _ (option_map shape.Permute (file_of file)) None differs in cc)) (cases_Bool (are_permuted outer first above inner second)) in
    let p = both_true _ (bytes_eq second (codes "packed")) test.0 in
    let q = both_true _ (bytes_eq inner (codes "col")) p.0 in
    let r = both_true _ (bytes_eq above (codes ">")) q.0 in
    let t = both_true (bytes_eq outer (codes "row")) (bytes_eq first (codes "dense")) r.0 in
    let read = mapped-some shape.Permute (file_of file) s test.1 in
    let name = sound_file file read.0 read.1 in
    subst (λ x. AreLevels x (codes "permute" ∷ file ∷ outer ∷ first ∷ above ∷ inner ∷ second ∷ [])) read.2 (
      ap (λ w. codes "permute" ∷ w ∷ outer ∷ first ∷ above ∷ inner ∷ second ∷ []) name.0
          ∙ ap (λ w. codes "permute" ∷ read.0 ∷ w ∷ first ∷ above ∷ inner ∷ second ∷ []) (same_word outer _ t.0)
          ∙ ap (λ w. codes "permute" ∷ read.0 ∷ codes "row" ∷ w ∷ above ∷ inner ∷ second ∷ []) (same_word first _ t.1)
          ∙ ap (λ w. codes "permute" ∷ read.0 ∷ codes "row" ∷ codes "dense" ∷ w ∷ inner ∷ second ∷ []) (same_word above _ r.1)
          ∙ ap (λ w. codes "permute" ∷ read.0 ∷ codes "row" ∷ codes "dense" ∷ codes ">" ∷ w ∷ second ∷ []) (same_word inner _ q.1)
          ∙ ap (λ w. codes "permute" ∷ read.0 ∷ codes "row" ∷ codes "dense" ∷ codes ">" ∷ codes "col" ∷ w ∷ []) (same_word second _ p.1),
      name.1,
    )
sound_permute ws s is = absurd cc

pub sound_jagged : (ws : List (List ℕ)) (s : RawShape) → jagged_of ws ≡ Some s → AreLevels s (codes "jagged" ∷ ws)
sound_jagged [] s is = subst (λ x. AreLevels x (codes "jagged" ∷ [])) (same_Some shape.Jagged s is) refl
sound_jagged (word ∷ ws) s is = absurd cc
