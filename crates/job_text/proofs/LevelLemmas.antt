-- Levels with offsets, extents and sources: what is read is spelled so, and what is spelled so is read.
use Rattle.std.proofs.Common.{◌≡◌, ℕ, suc, ◌+◌, ℤ, pos, true, false, cond, ltb, eqb, Option, Some, None, option_map, List, [], ◌∷◌, ◌++◌, not, get_or, length, length-append, take, drop, append-nil, refl, sym, ap, subst, ◌∙◌, arith, inl, inr, ⊎_elim}
use Rattle.std.specs.Prelude.{option_and_then, codes, ◌<ℤ◌}
use Rattle.std.specs.List.{AllZip, list_all, before_first, after_first}
use Rattle.std.specs.Str.{bytes_eq}
use Rattle.std.specs.Int.Signed.{lt_z}
use Rattle.std.proofs.lemmas.List.Sums.{split_at_first, passes_at_first}
use Rattle.std.proofs.lemmas.Option.{same_Some, cond_some}
use Rattle.std.proofs.lemmas.Bool.{cases_Bool, cond-true, cond-false, lt-ltb, le-ltb, ltb-true, eqb-true, false≢true}
use Rattle.std.proofs.lemmas.Int.{ints}
use Rattle.bern_base.specs.declared.axes.Axis.{Axis}
use Rattle.bern_base.specs.declared.axes.Axis.TheVariants as axis
use Rattle.bern_base.specs.declared.raw.RawShape.{RawShape}
use Rattle.bern_base.specs.declared.raw.RawShape.TheVariants as shape
use Rattle.job_text.specs.Names.{is_numeral, is_name_byte}
use Rattle.job_text.specs.Reading.{number_of}
use Rattle.job_text.specs.Forms.{IsName, AreTwo, IsOffset, Rise, AreOffsets, AreLevels, AreExtents, IsSource}
use Rattle.job_text.specs.WordReading.{name_of, file_of, two_of, axes_of, permute_of, jagged_of, below_zero, offset_of, is_above, risen, next_offset, onto, offsets_from, offsets_of, levels_of, is_comma, comma_place, only_extent, two_extents, both_of, extents_of, source_of}
use Rattle.job_text.proofs.TokenLemmas.{mapped-some}
use Rattle.job_text.proofs.SumLemmas.{bound-some}
use Rattle.job_text.proofs.WordLemmas.{by_word, only_word, sound_name, complete_name, sound_file, complete_file, sound_number, complete_number, sound_axes, sound_permute, sound_jagged, both_true}

sound_offset : (word : List ℕ) (z : ℤ) → offset_of word ≡ Some z → IsOffset z word
sound_offset [] z is = absurd cc
sound_offset (byte ∷ digits) z is = ⊎_elim
    (λ minus. let read = mapped-some below_zero (number_of digits) z (sym (cond-true _ _ _ minus) ∙ is) in
    inr (read.0, digits, ap (λ b. b ∷ digits) (eqb-true byte 45 minus), sound_number digits read.0 read.1, sym read.2))
    (λ other. let read = mapped-some pos (number_of (byte ∷ digits)) z (sym (cond-false _ _ _ other) ∙ is) in
    inl (read.0, sound_number (byte ∷ digits) read.0 read.1, sym read.2))
    (cases_Bool (eqb byte 45))

complete_offset : (word : List ℕ) (z : ℤ) → IsOffset z word → offset_of word ≡ Some z
complete_offset [] z (inl is) = absurd (false≢true is.1.digits)
complete_offset (byte ∷ digits) z (inl is) = ⊎_elim
    (λ minus. absurd (let e = eqb-true byte 45 minus in false≢true (ap (λ b. is_numeral (b ∷ digits)) (sym e) ∙ is.1.digits)))
    (λ other. cond-false _ _ _ other ∙ ap (option_map pos) (complete_number (byte ∷ digits) is.0 is.1) ∙ ap Some (sym is.2))
    (cases_Bool (eqb byte 45))
complete_offset word z (inr is) = ap offset_of is.2 ∙ ap (option_map below_zero) (complete_number is.1 is.0 is.3) ∙ ap Some (sym is.4)

above-lt : (a b : ℤ) → lt_z a b ≡ true → a <ℤ b
above-lt a b is = grind (arith, ints)

lt-above : (a b : ℤ) → a <ℤ b → lt_z a b ≡ true
lt-above a b is = grind (arith, ints)

-- each above the one before it, the first above the last of those before
abbrev Rises : Option ℤ → List ℤ → Type 0
Rises last [] = Unit {0}
Rises last (z ∷ zs) = (is_above last z ≡ true) × Rises (Some z) zs

rise-after : (a : ℤ) (zs : List ℤ) → Rises (Some a) zs → Rise (a ∷ zs)
rise-after a [] is = tt
rise-after a (z ∷ zs) is = (above-lt a z is.0, rise-after z zs is.1)

rises-after : (a : ℤ) (zs : List ℤ) → Rise (a ∷ zs) → Rises (Some a) zs
rises-after a [] is = tt
rises-after a (z ∷ zs) is = (lt-above a z is.0, rises-after z zs is.1)

sound_next : (last : Option ℤ) (word : List ℕ) (z : ℤ) → next_offset last word ≡ Some z → IsOffset z word × (is_above last z ≡ true)
sound_next last word z is =
    let read = bound-some (risen last) (offset_of word) z is in
    let test = cond_some (is_above last read.0) read.0 z read.2 in
    (subst (λ x. IsOffset x word) test.1 (sound_offset word read.0 read.1), subst (λ x. is_above last x ≡ true) test.1 test.0)

complete_next : (last : Option ℤ) (word : List ℕ) (z : ℤ) → IsOffset z word → is_above last z ≡ true → next_offset last word ≡ Some z
complete_next last word z is above = ap (option_and_then (risen last)) (complete_offset word z is) ∙ cond-true _ _ _ above

sound_from : (last : Option ℤ) (ws : List (List ℕ)) (zs : List ℤ) → offsets_from last ws ≡ Some zs → AllZip IsOffset zs ws × Rises last zs
unfolding offsets_from
sound_from last [] zs is = subst (λ l. AllZip IsOffset l [] × Rises last l) (same_Some [] zs is) (tt, tt)
sound_from last (word ∷ ws) zs is =
    let first = bound-some (λ next. option_map (onto (next ∷ [])) (offsets_from (Some next) ws)) (next_offset last word) zs is in
    let rest = mapped-some (onto (first.0 ∷ [])) (offsets_from (Some first.0) ws) zs first.2 in
    let head = sound_next last word first.0 first.1 in
    let tail = sound_from (Some first.0) ws rest.0 rest.1 in
    subst (λ l. AllZip IsOffset l (word ∷ ws) × Rises last l) rest.2 ((head.0, tail.0), (head.1, tail.1))

complete_from : (last : Option ℤ) (ws : List (List ℕ)) (zs : List ℤ) → AllZip IsOffset zs ws → Rises last zs → offsets_from last ws ≡ Some zs
unfolding offsets_from
complete_from last [] [] is rises = refl
complete_from last [] (z ∷ zs) is rises = absurd is
complete_from last (word ∷ ws) [] is rises = absurd is
complete_from last (word ∷ ws) (z ∷ zs) is rises =
    ap (option_and_then (λ next. option_map (onto (next ∷ [])) (offsets_from (Some next) ws))) (complete_next last word z is.0 rises.0)
    ∙ ap (option_map (onto (z ∷ []))) (complete_from (Some z) ws zs is.1 rises.1)

sound_offsets : (ws : List (List ℕ)) (zs : List ℤ) → offsets_of ws ≡ Some zs → AreOffsets zs ws
sound_offsets [] zs is = absurd cc
sound_offsets (word ∷ ws) [] is = absurd ((sound_from None (word ∷ ws) [] is).0)
sound_offsets (word ∷ ws) (z ∷ zs) is =
    let found = sound_from None (word ∷ ws) (z ∷ zs) is in
    record { spelled = found.0; rising = rise-after z zs found.1.1; some = λ none. cc }

complete_offsets : (ws : List (List ℕ)) (zs : List ℤ) → AreOffsets zs ws → offsets_of ws ≡ Some zs
complete_offsets ws [] is = absurd (is.some refl)
complete_offsets [] (z ∷ zs) is = absurd is.spelled
complete_offsets (word ∷ ws) (z ∷ zs) is = complete_from None (word ∷ ws) (z ∷ zs) is.spelled (refl, rises-after z zs is.rising)

pub sound_levels : (ws : List (List ℕ)) (s : RawShape) → levels_of ws ≡ Some s → AreLevels s ws
unfolding levels_of
sound_levels [] s is = absurd cc
sound_levels (key ∷ rest) s is = ⊎_elim
    (λ jagged. subst (λ k. AreLevels s (k ∷ rest)) (sym jagged.0) (sound_jagged rest s jagged.1))
    (λ more. ⊎_elim
    (λ diagonal. let read = mapped-some shape.Diagonal (offsets_of rest) s diagonal.1 in
    subst (λ k. AreLevels s (k ∷ rest)) (sym diagonal.0) (subst (λ x. AreLevels x (codes "diagonal" ∷ rest)) read.2 (rest, refl, sound_offsets rest read.0 read.1)))
    (λ others. ⊎_elim
    (λ permute. subst (λ k. AreLevels s (k ∷ rest)) (sym permute.0) (sound_permute rest s permute.1))
    (λ axes. sound_axes (key ∷ rest) s axes)
    (by_word key (codes "permute") (permute_of rest) (axes_of (key ∷ rest)) s others))
    (by_word key (codes "diagonal") (option_map shape.Diagonal (offsets_of rest)) (cond (bytes_eq key (codes "permute")) (permute_of rest) (axes_of (key ∷ rest))) s more))
    (by_word key (codes "jagged") (jagged_of rest) (cond (bytes_eq key (codes "diagonal")) (option_map shape.Diagonal (offsets_of rest)) (cond (bytes_eq key (codes "permute")) (permute_of rest) (axes_of (key ∷ rest)))) s is)

complete_two : (outer : Axis) (first second : List ℕ) (ws : List (List ℕ)) → AreTwo outer first second ws → levels_of ws ≡ two_of outer first second
unfolding levels_of axes_of
complete_two axis.Row first second ws is = ap levels_of (is.2 ∙ ap (λ a. a ∷ first ∷ codes ">" ∷ is.1 ∷ second ∷ []) is.3 ∙ ap (λ b. codes "row" ∷ first ∷ codes ">" ∷ b ∷ second ∷ []) is.4)
complete_two axis.Col first second ws is = ap levels_of (is.2 ∙ ap (λ a. a ∷ first ∷ codes ">" ∷ is.1 ∷ second ∷ []) is.3 ∙ ap (λ b. codes "col" ∷ first ∷ codes ">" ∷ b ∷ second ∷ []) is.4)
complete_two axis.Both first second ws is = absurd is.3

pub complete_levels : (ws : List (List ℕ)) (s : RawShape) → AreLevels s ws → levels_of ws ≡ Some s
unfolding levels_of axes_of permute_of
complete_levels ws shape.DenseOne is = ap levels_of is
complete_levels ws shape.PackedOne is = ap levels_of is
complete_levels ws shape.ListOne is = ap levels_of is
complete_levels ws (shape.DenseDense outer) is = complete_two outer (codes "dense") (codes "dense") ws is
complete_levels ws (shape.DensePacked outer) is = complete_two outer (codes "dense") (codes "packed") ws is
complete_levels ws (shape.PackedPacked outer) is = complete_two outer (codes "packed") (codes "packed") ws is
complete_levels ws shape.ListTwo is = ap levels_of is
complete_levels ws shape.Jagged is = ap levels_of is
complete_levels ws (shape.Diagonal offsets) is = ap levels_of is.1 ∙ ap (option_map shape.Diagonal) (complete_offsets is.0 offsets is.2)
complete_levels ws (shape.Permute file) is = ap levels_of is.0 ∙ ap (option_map shape.Permute) (complete_file file is.1)

-- no comma stands in a name
comma_after : (name rest : List ℕ) → list_all is_name_byte name ≡ true → comma_place (name ++ rest) ≡ length name + comma_place rest
comma_after [] rest names = omega arith
comma_after (byte ∷ name) rest names =
    let parts = both_true (is_name_byte byte) (list_all is_name_byte name) names in
    let other : is_comma byte ≡ false = ⊎_elim
    (λ comma. absurd (false≢true (ap is_name_byte (sym (eqb-true byte 44 comma)) ∙ parts.0)))
    (λ differs. differs)
    (cases_Bool (is_comma byte)) in
    let later = comma_after name rest parts.1 in
    cond-true (not (is_comma byte)) (1 + comma_place (name ++ rest)) 0 (ap not other) ∙ omega arith

name_bytes : (name : List ℕ) → IsName name → list_all is_name_byte name ≡ true
name_bytes name is = (both_true _ (list_all is_name_byte name) (both_true _ _ is).0).1

sound_both : (before after : List ℕ) (names : List (List ℕ)) → both_of before after ≡ Some names → AreExtents names (before ++ 44 ∷ after)
sound_both before after names is =
    let first = bound-some (λ rows. option_map (two_extents rows) (name_of after)) (name_of before) names is in
    let second = mapped-some (two_extents first.0) (name_of after) names first.2 in
    let rows = sound_name before first.0 first.1 in
    let cols = sound_name after second.0 second.1 in
    subst (λ l. AreExtents l (before ++ 44 ∷ after)) second.2 (ap (λ b. b ++ 44 ∷ after) rows.0 ∙ ap (λ a. first.0 ++ 44 ∷ a) cols.0, rows.1, cols.1)

pub sound_extents : (word : List ℕ) (names : List (List ℕ)) → extents_of word ≡ Some names → AreExtents names word
unfolding extents_of
sound_extents word names is = ⊎_elim
    (λ inside.
    let below = ltb-true (comma_place word) (length word) inside in
    let comma : get_or word (comma_place word) 0 ≡ 44 = eqb-true _ 44 (passes_at_first is_comma word 0 below) in
    let whole = split_at_first is_comma word 0 below ∙ ap (λ b. before_first is_comma word ++ b ∷ after_first is_comma word) comma in
    subst (AreExtents names) (sym whole) (sound_both (before_first is_comma word) (after_first is_comma word) names (sym (cond-true _ (both_of (take (comma_place word) word) (drop (comma_place word + 1) word)) (option_map only_extent (name_of word)) inside) ∙ is)))
    (λ none.
    let read = mapped-some only_extent (name_of word) names (sym (cond-false _ (both_of (take (comma_place word) word) (drop (comma_place word + 1) word)) (option_map only_extent (name_of word)) none) ∙ is) in
    subst (λ l. AreExtents l word) read.2 (sound_name word read.0 read.1))
    (cases_Bool (ltb (comma_place word) (length word)))

pub complete_extents : (word : List ℕ) (names : List (List ℕ)) → AreExtents names word → extents_of word ≡ Some names
unfolding extents_of
complete_extents word [] is = absurd is
complete_extents word (only ∷ []) is =
    let place : comma_place word ≡ length only = ap comma_place (is.0 ∙ sym (append-nil only)) ∙ comma_after only [] (name_bytes only is.1) ∙ omega arith in
    let size = ap length is.0 in
    cond-false _ _ _ (le-ltb (comma_place word) (length word) (omega arith)) ∙ ap (option_map only_extent) (ap name_of is.0 ∙ complete_name only is.1)
complete_extents word (rows ∷ cols ∷ []) is =
    let place : comma_place word ≡ length rows = ap comma_place is.0 ∙ comma_after rows (44 ∷ cols) (name_bytes rows is.1) ∙ omega arith in
    let size : length word ≡ length rows + suc (length cols) = ap length is.0 ∙ length-append rows (44 ∷ cols) in
    let front : take (comma_place word) word ≡ rows = ap (λ n. take n word) place ∙ ap (take (length rows)) is.0 ∙ take_front rows (44 ∷ cols) in
    let back : drop (comma_place word + 1) word ≡ cols = ap (λ n. drop (n + 1) word) place ∙ ap (drop (length rows + 1)) is.0 ∙ drop_after rows cols in
    cond-true _ _ _ (lt-ltb (comma_place word) (length word) (omega arith))
    ∙ ap (λ f. both_of f (drop (comma_place word + 1) word)) front ∙ ap (both_of rows) back
    ∙ ap (option_and_then (λ r. option_map (two_extents r) (name_of cols))) (complete_name rows is.1) ∙ ap (option_map (two_extents rows)) (complete_name cols is.2)
  where
    take_front : (xs ys : List ℕ) → take (length xs) (xs ++ ys) ≡ xs
    take_front [] ys = refl
    take_front (x ∷ xs) ys = ap (λ l. x ∷ l) (take_front xs ys)

    drop_after : (xs ys : List ℕ) → drop (length xs + 1) (xs ++ 44 ∷ ys) ≡ ys
    drop_after [] ys = refl
    drop_after (x ∷ xs) ys = let e : suc (length xs) + 1 ≡ suc (length xs + 1) = omega arith in ap (λ n. drop n (x ∷ xs ++ 44 ∷ ys)) e ∙ drop_after xs ys
complete_extents word (rows ∷ cols ∷ more ∷ names) is = absurd is

pub sound_source : (ws : List (List ℕ)) (file : Option (List ℕ)) → source_of ws ≡ Some file → IsSource file ws
unfolding source_of
sound_source (word ∷ []) file is =
    let test = only_word word (codes "zero") (Some None) file is in
    subst (λ f. IsSource f (word ∷ [])) (same_Some None file test.1) (ap (λ w. w ∷ []) test.0)
sound_source (word ∷ name ∷ []) file is =
    let test = only_word word (codes "from") (option_map Some (file_of name)) file is in
    let read = mapped-some Some (file_of name) file test.1 in
    let found = sound_file name read.0 read.1 in
    subst (λ f. IsSource f (word ∷ name ∷ [])) read.2 (ap (λ w. w ∷ name ∷ []) test.0 ∙ ap (λ w. codes "from" ∷ w ∷ []) found.0, found.1)
sound_source ws file is = absurd cc

pub complete_source : (ws : List (List ℕ)) (file : Option (List ℕ)) → IsSource file ws → source_of ws ≡ Some file
unfolding source_of
complete_source ws None is = ap source_of is
complete_source ws (Some file) is = ap source_of is.0 ∙ ap (option_map Some) (complete_file file is.1)
