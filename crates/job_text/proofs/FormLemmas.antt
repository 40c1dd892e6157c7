-- Forms of lines: what is read is spelled so, what is spelled so is read, and a text has one form at most.
use Rattle.std.proofs.Common.{◌≡◌, ◌≢◌, ℕ, suc, Bool, true, false, cond, eqb, Option, Some, None, option_map, List, [], ◌∷◌, ◌++◌, length, take, drop, take-append-drop, refl, sym, ap, subst, ◌∙◌, arith, ⊎_elim}
use Rattle.std.specs.Prelude.{option_and_then, codes, filter}
use Rattle.std.specs.List.{slice_split, onto_first}
use Rattle.std.specs.Str.{bytes_eq}
use Rattle.std.proofs.lemmas.List.Splits.{slice_split-cons_yes, slice_split-cons_no}
use Rattle.std.proofs.lemmas.Option.{some_pair_parts, same_Some}
use Rattle.std.proofs.lemmas.Bool.{cases_Bool, cond-true, cond-false}
use Rattle.bern_base.specs.declared.raw.Form.{Form}
use Rattle.bern_base.specs.declared.raw.Form.TheVariants as form
use Rattle.bern_base.specs.declared.raw.RawKind.{RawKind}
use Rattle.bern_base.specs.declared.raw.RawKind.TheVariants as kind
use Rattle.bern_base.specs.declared.raw.RawNest.{RawNest}
use Rattle.job_text.specs.declared.tokens.Token.{Token}
use Rattle.job_text.specs.declared.tokens.Token.TheVariants.{Name, Num, Mark}
use Rattle.job_text.specs.declared.tokens.Mark as mark
use Rattle.job_text.specs.declared.tokens.Mark.TheVariants as m
use Rattle.job_text.specs.Lines.{is_blank, is_some_text, trimmed, words}
use Rattle.job_text.specs.Names.{is_name, is_digit, is_name_start}
use Rattle.job_text.specs.Marks.{equal_mark, double_mark, single_mark}
use Rattle.job_text.specs.Reading.{number_of}
use Rattle.job_text.specs.Tokens.{digits_end, word_end, word_token, single_at, longer_first, mark_at, first_token, Lexes}
use Rattle.job_text.specs.Grammar.{IsNest}
use Rattle.job_text.specs.Forms.{IsKind, IsWordForm, IsForm}
use Rattle.job_text.specs.WordReading.{name_of, file_of, extent_of, kind_of, place_of, print_of, levels_of, format_of, extents_of, axis_of, source_of, placed_of, split_of, formed_of, sized_of, array_of, form_of}
use Rattle.job_text.proofs.TokenLemmas.{mapped-some, lexes_one}
use Rattle.job_text.proofs.SumLemmas.{bound-some}
use Rattle.job_text.proofs.WordLemmas.{by_word, only_word, sound_name, complete_name, sound_file, complete_file, sound_number, complete_number, sound_axis, complete_axis}
use Rattle.job_text.proofs.LevelLemmas.{sound_levels, complete_levels, sound_extents, complete_extents, sound_source, complete_source}
use Rattle.job_text.proofs.NestLemmas.{complete_nest}

sound_extent : (ws : List (List ℕ)) (f : Form) → extent_of ws ≡ Some f → IsWordForm f (codes "extent" ∷ ws)
unfolding extent_of
sound_extent (name ∷ number ∷ []) f is =
    let first = bound-some (λ n. option_map (form.Extent n) (number_of number)) (name_of name) f is in
    let size = mapped-some (form.Extent first.0) (number_of number) f first.2 in
    let called = sound_name name first.0 first.1 in
    subst (λ x. IsWordForm x (codes "extent" ∷ name ∷ number ∷ [])) size.2 (number, ap (λ w. codes "extent" ∷ w ∷ number ∷ []) called.0, called.1, sound_number number size.0 size.1)
sound_extent ws f is = absurd cc

sound_kind : (ws : List (List ℕ)) (k : RawKind) → kind_of ws ≡ Some k → IsKind k ws
unfolding kind_of
sound_kind (word ∷ []) k is =
    let test = only_word word (codes "block") (Some kind.Block) k is in
    subst (λ x. IsKind x (word ∷ [])) (same_Some kind.Block k test.1) (ap (λ w. w ∷ []) test.0)
sound_kind (word ∷ which ∷ []) k is = ⊎_elim
    (λ cyclic. let read = mapped-some kind.Cyclic (number_of which) k cyclic.1 in
    subst (λ x. IsKind x (word ∷ which ∷ [])) read.2 (which, ap (λ w. w ∷ which ∷ []) cyclic.0, sound_number which read.0 read.1))
    (λ rest. let listed = only_word word (codes "listed") (option_map kind.Listed (file_of which)) k rest in
    let read = mapped-some kind.Listed (file_of which) k listed.1 in
    let file = sound_file which read.0 read.1 in
    subst (λ x. IsKind x (word ∷ which ∷ [])) read.2 (ap (λ w. w ∷ which ∷ []) listed.0 ∙ ap (λ w. codes "listed" ∷ w ∷ []) file.0, file.1))
    (by_word word (codes "cyclic") (option_map kind.Cyclic (number_of which)) (cond (bytes_eq word (codes "listed")) (option_map kind.Listed (file_of which)) None) k is)
sound_kind ws k is = absurd cc

complete_kind : (ws : List (List ℕ)) (k : RawKind) → IsKind k ws → kind_of ws ≡ Some k
unfolding kind_of
complete_kind ws kind.Block is = ap kind_of is
complete_kind ws (kind.Cyclic block) is = ap kind_of is.1 ∙ ap (option_map kind.Cyclic) (complete_number is.0 block is.2)
complete_kind ws (kind.Listed file) is = ap kind_of is.0 ∙ ap (option_map kind.Listed) (complete_file file is.1)

sound_place : (ws : List (List ℕ)) (f : Form) → place_of ws ≡ Some f → IsWordForm f (codes "place" ∷ ws)
unfolding place_of
sound_place (name ∷ extent ∷ rest) f is =
    let first = bound-some (λ n. option_and_then (λ e. option_map (form.Place n e) (kind_of rest)) (name_of extent)) (name_of name) f is in
    let second = bound-some (λ e. option_map (form.Place first.0 e) (kind_of rest)) (name_of extent) f first.2 in
    let dealt = mapped-some (form.Place first.0 second.0) (kind_of rest) f second.2 in
    let called = sound_name name first.0 first.1 in
    let over = sound_name extent second.0 second.1 in
    subst (λ x. IsWordForm x (codes "place" ∷ name ∷ extent ∷ rest)) dealt.2
    (rest, ap (λ w. codes "place" ∷ w ∷ extent ∷ rest) called.0 ∙ ap (λ w. codes "place" ∷ first.0 ∷ w ∷ rest) over.0, called.1, over.1, sound_kind rest dealt.0 dealt.1)
sound_place ws f is = absurd cc

sound_format : (ws : List (List ℕ)) (f : Form) → format_of ws ≡ Some f → IsWordForm f (codes "format" ∷ ws)
unfolding format_of
sound_format (name ∷ rest) f is =
    let first = bound-some (λ n. option_map (form.Format n) (levels_of rest)) (name_of name) f is in
    let levels = mapped-some (form.Format first.0) (levels_of rest) f first.2 in
    let called = sound_name name first.0 first.1 in
    subst (λ x. IsWordForm x (codes "format" ∷ name ∷ rest)) levels.2 (rest, ap (λ w. codes "format" ∷ w ∷ rest) called.0, called.1, sound_levels rest levels.0 levels.1)
sound_format ws f is = absurd cc

sound_print : (ws : List (List ℕ)) (f : Form) → print_of ws ≡ Some f → IsWordForm f (codes "print" ∷ ws)
unfolding print_of
sound_print (name ∷ []) f is =
    let read = mapped-some form.Print (name_of name) f is in
    let called = sound_name name read.0 read.1 in
    subst (λ x. IsWordForm x (codes "print" ∷ name ∷ [])) read.2 (ap (λ w. codes "print" ∷ w ∷ []) called.0, called.1)
sound_print ws f is = absurd cc

sound_array : (ws : List (List ℕ)) (f : Form) → array_of ws ≡ Some f → IsWordForm f (codes "array" ∷ ws)
unfolding array_of
sound_array (name ∷ sizes ∷ format ∷ side ∷ by ∷ place ∷ rest) f is =
    let test = only_word by (codes "by") (option_and_then (sized_of sizes format side place rest) (name_of name)) f is in
    let a = bound-some (sized_of sizes format side place rest) (name_of name) f test.1 in
    let b = bound-some (formed_of a.0 format side place rest) (extents_of sizes) f a.2 in
    let c = bound-some (split_of a.0 b.0 side place rest) (name_of format) f b.2 in
    let d = bound-some (placed_of a.0 b.0 c.0 place rest) (axis_of side) f c.2 in
    let e = bound-some (λ p. option_map (form.Array a.0 b.0 c.0 d.0 p) (source_of rest)) (name_of place) f d.2 in
    let g = mapped-some (form.Array a.0 b.0 c.0 d.0 e.0) (source_of rest) f e.2 in
    let called = sound_name name a.0 a.1 in
    let shaped = sound_name format c.0 c.1 in
    let placed = sound_name place e.0 e.1 in
    subst (λ x. IsWordForm x (codes "array" ∷ name ∷ sizes ∷ format ∷ side ∷ by ∷ place ∷ rest)) g.2 (
      sizes,
      side,
      rest,
      ap (λ w. codes "array" ∷ w ∷ sizes ∷ format ∷ side ∷ by ∷ place ∷ rest) called.0 ∙ ap (λ w. codes "array" ∷ a.0 ∷ sizes ∷ w ∷ side ∷ by ∷ place ∷ rest) shaped.0
          ∙ ap (λ w. codes "array" ∷ a.0 ∷ sizes ∷ c.0 ∷ side ∷ w ∷ place ∷ rest) test.0 ∙ ap (λ w. codes "array" ∷ a.0 ∷ sizes ∷ c.0 ∷ side ∷ codes "by" ∷ w ∷ rest) placed.0,
      called.1,
      sound_extents sizes b.0 b.1,
      shaped.1,
      sound_axis side d.0 d.1,
      placed.1,
      sound_source rest g.0 g.1,
    )
sound_array ws f is = absurd cc

pub sound_form : (ws : List (List ℕ)) (f : Form) → form_of ws ≡ Some f → IsWordForm f ws
unfolding form_of
sound_form [] f is = absurd cc
sound_form (key ∷ rest) f is = ⊎_elim
    (λ extent. subst (λ k. IsWordForm f (k ∷ rest)) (sym extent.0) (sound_extent rest f extent.1))
    (λ more. ⊎_elim
    (λ place. subst (λ k. IsWordForm f (k ∷ rest)) (sym place.0) (sound_place rest f place.1))
    (λ others. ⊎_elim
    (λ format. subst (λ k. IsWordForm f (k ∷ rest)) (sym format.0) (sound_format rest f format.1))
    (λ last. ⊎_elim
    (λ array. subst (λ k. IsWordForm f (k ∷ rest)) (sym array.0) (sound_array rest f array.1))
    (λ print. let found = only_word key (codes "print") (print_of rest) f print in subst (λ k. IsWordForm f (k ∷ rest)) (sym found.0) (sound_print rest f found.1))
    (by_word key (codes "array") (array_of rest) (cond (bytes_eq key (codes "print")) (print_of rest) None) f last))
    (by_word key (codes "format") (format_of rest) (cond (bytes_eq key (codes "array")) (array_of rest) (cond (bytes_eq key (codes "print")) (print_of rest) None)) f others))
    (by_word key (codes "place") (place_of rest) (cond (bytes_eq key (codes "format")) (format_of rest) (cond (bytes_eq key (codes "array")) (array_of rest) (cond (bytes_eq key (codes "print")) (print_of rest) None))) f more))
    (by_word key (codes "extent") (extent_of rest) (cond (bytes_eq key (codes "place")) (place_of rest) (cond (bytes_eq key (codes "format")) (format_of rest) (cond (bytes_eq key (codes "array")) (array_of rest) (cond (bytes_eq key (codes "print")) (print_of rest) None)))) f is)

pub complete_form : (ws : List (List ℕ)) (f : Form) → IsWordForm f ws → form_of ws ≡ Some f
unfolding form_of extent_of place_of format_of print_of array_of
complete_form ws (form.Extent name size) is =
    ap form_of is.1 ∙ ap (option_and_then (λ n. option_map (form.Extent n) (number_of is.0))) (complete_name name is.2) ∙ ap (option_map (form.Extent name)) (complete_number is.0 size is.3)
complete_form ws (form.Place name extent dealt) is =
    ap form_of is.1 ∙ ap (option_and_then (λ n. option_and_then (λ e. option_map (form.Place n e) (kind_of is.0)) (name_of extent))) (complete_name name is.2)
    ∙ ap (option_and_then (λ e. option_map (form.Place name e) (kind_of is.0))) (complete_name extent is.3) ∙ ap (option_map (form.Place name extent)) (complete_kind is.0 dealt is.4)
complete_form ws (form.Format name levels) is =
    ap form_of is.1 ∙ ap (option_and_then (λ n. option_map (form.Format n) (levels_of is.0))) (complete_name name is.2) ∙ ap (option_map (form.Format name)) (complete_levels is.0 levels is.3)
complete_form ws (form.Array name extents format split place file) is =
    ap form_of is.3 ∙ ap (option_and_then (sized_of is.0 format is.1 place is.2)) (complete_name name is.4)
    ∙ ap (option_and_then (formed_of name format is.1 place is.2)) (complete_extents is.0 extents is.5)
    ∙ ap (option_and_then (split_of name extents is.1 place is.2)) (complete_name format is.6)
    ∙ ap (option_and_then (placed_of name extents format place is.2)) (complete_axis is.1 split is.7)
    ∙ ap (option_and_then (λ p. option_map (form.Array name extents format split p) (source_of is.2))) (complete_name place is.8)
    ∙ ap (option_map (form.Array name extents format split place)) (complete_source is.2 file is.9)
complete_form ws (form.Nest nest) is = absurd is
complete_form ws (form.Print name) is = ap form_of is.0 ∙ ap (option_map form.Print) (complete_name name is.1)

-- the first word of a text begins with the text's first byte that is no blank
blank_parts : (text : List ℕ) → (first : List ℕ) × (more : List (List ℕ)) × (slice_split is_blank text ≡ first ∷ more)
blank_parts [] = ([], [], refl)
blank_parts (byte ∷ text) = ⊎_elim
    (λ blank. ([], slice_split is_blank text, slice_split-cons_yes is_blank byte text blank))
    (λ other. let rest = blank_parts text in (byte ∷ rest.0, rest.1, slice_split-cons_no is_blank byte text other ∙ ap (onto_first byte) rest.2))
    (cases_Bool (is_blank byte))

words_begin : (byte : ℕ) (text : List ℕ) → is_blank byte ≡ false → (word : List ℕ) × (more : List (List ℕ)) × (words (byte ∷ text) ≡ (byte ∷ word) ∷ more)
words_begin byte text other =
    let parts = blank_parts text in
    (parts.0, filter is_some_text parts.1, ap (filter is_some_text) (slice_split-cons_no is_blank byte text other ∙ ap (onto_first byte) parts.2))

words-trimmed : (text : List ℕ) → words (trimmed text) ≡ words text
words-trimmed [] = refl
words-trimmed (byte ∷ text) = ⊎_elim
    (λ blank. ap words (cond-true _ (trimmed text) (byte ∷ text) blank) ∙ words-trimmed text ∙ ap (filter is_some_text) (sym (slice_split-cons_yes is_blank byte text blank)))
    (λ other. ap words (cond-false _ (trimmed text) (byte ∷ text) other))
    (cases_Bool (is_blank byte))

abbrev first_byte : List (List ℕ) → ℕ
first_byte ((byte ∷ word) ∷ words) = byte
first_byte others = 0

-- a line of words does not begin with a `d`
not_d : (ws : List (List ℕ)) (f : Form) → IsWordForm f ws → first_byte ws ≢ 100
not_d ws (form.Extent name size) is d = let e = ap first_byte is.1 in omega arith
not_d ws (form.Place name extent dealt) is d = let e = ap first_byte is.1 in omega arith
not_d ws (form.Format name levels) is d = let e = ap first_byte is.1 in omega arith
not_d ws (form.Array name extents format split place file) is d = let e = ap first_byte is.3 in omega arith
not_d ws (form.Nest nest) is d = is
not_d ws (form.Print name) is d = let e = ap first_byte is.0 in omega arith

pub no_word_form : (text tail : List ℕ) (f : Form) → text ≡ 100 ∷ tail → IsWordForm f (words text) → ⊥
no_word_form text tail f is spelled = not_d (words text) f spelled (ap first_byte (ap words is ∙ (words_begin 100 tail refl).2))

abbrev NoDoany : Option mark.Mark → Type 0
NoDoany o = o ≡ Some m.Doany → ⊥

either : (b : Bool) (x y : Option mark.Mark) → NoDoany x → NoDoany y → NoDoany (cond b x y)
either true x y one two = one
either false x y one two = two

equal_no_doany : (byte : ℕ) → NoDoany (equal_mark byte)
equal_no_doany byte =
    either (eqb byte 43) _ _ (λ e. cc) (either (eqb byte 60) _ _ (λ e. cc) (either (eqb byte 62) _ _ (λ e. cc) (either (eqb byte 61) _ _ (λ e. cc) (either (eqb byte 33) _ _ (λ e. cc) (λ e. cc)))))

double_no_doany : (first second : ℕ) → NoDoany (double_mark first second)
double_no_doany first second =
    either (eqb second 61) _ _ (equal_no_doany first) (either (eqb second 46) _ _ (either (eqb first 46) _ _ (λ e. cc) (λ e. cc)) (λ e. cc))

single_no_doany : (byte : ℕ) → NoDoany (single_mark byte)
single_no_doany byte =
    either (eqb byte 91) _ _ (λ e. cc) (either (eqb byte 93) _ _ (λ e. cc) (either (eqb byte 40) _ _ (λ e. cc) (either (eqb byte 41) _ _ (λ e. cc)
    (either (eqb byte 44) _ _ (λ e. cc) (either (eqb byte 58) _ _ (λ e. cc) (either (eqb byte 42) _ _ (λ e. cc) (either (eqb byte 43) _ _ (λ e. cc)
    (either (eqb byte 45) _ _ (λ e. cc) (either (eqb byte 61) _ _ (λ e. cc) (either (eqb byte 60) _ _ (λ e. cc) (either (eqb byte 62) _ _ (λ e. cc) (λ e. cc))))))))))))

single_at-doany : (byte : ℕ) (text rest : List ℕ) → single_at byte text ≡ Some (Mark m.Doany, rest) → ⊥
single_at-doany byte text rest is =
    let read = mapped-some (λ k. (Mark k, text)) (single_mark byte) (Mark m.Doany, rest) is in
    let same = ap (λ p. p.0) read.2 in
    single_no_doany byte (read.1 ∙ ap Some cc)

mark_at-doany : (byte : ℕ) (text rest : List ℕ) → mark_at byte text ≡ Some (Mark m.Doany, rest) → ⊥
mark_at-doany byte [] rest is = single_at-doany byte [] rest is
mark_at-doany byte (next ∷ text) rest is = longer (double_mark byte next) (double_no_doany byte next) is
  where
    longer : (o : Option mark.Mark) → NoDoany o → longer_first (option_map (λ k. (Mark k, text)) o) (single_at byte (next ∷ text)) ≡ Some (Mark m.Doany, rest) → ⊥
    longer None free e = single_at-doany byte (next ∷ text) rest e
    longer (Some k) free e = free (let s = (some_pair_parts (Mark k) (Mark m.Doany) text rest e).0 in cc)

-- a text whose first token is `doany` begins with that word
pub doany_begins : (text rest : List ℕ) → first_token text ≡ Some (Mark m.Doany, rest) → (tail : List ℕ) × (text ≡ codes "doany" ++ tail)
doany_begins [] rest is = absurd cc
doany_begins (byte ∷ text) rest is = ⊎_elim
    (λ digit. let read = mapped-some (λ n. (Num n, drop (digits_end (byte ∷ text)) (byte ∷ text))) (number_of (take (digits_end (byte ∷ text)) (byte ∷ text))) (Mark m.Doany, rest) (sym (cond-true _ _ _ digit) ∙ is) in
    absurd (let e = ap (λ p. p.0) read.2 in cc))
    (λ other. ⊎_elim
    (λ letter.
    let all = byte ∷ text in
    let read = mapped-some (λ token. (token, drop (word_end all) all)) (word_token (take (word_end all) all)) (Mark m.Doany, rest) (sym (cond-true _ _ _ letter) ∙ sym (cond-false _ _ _ other) ∙ is) in
    let word = is_doany (take (word_end all) all) (read.1 ∙ ap Some (ap (λ p. p.0) read.2)) in
    (drop (word_end all) all, sym (take-append-drop (word_end all) all) ∙ ap (λ w. w ++ drop (word_end all) all) word))
    (λ rest_is. absurd (mark_at-doany byte text rest (sym (cond-false _ _ _ rest_is) ∙ sym (cond-false _ _ _ other) ∙ is)))
    (cases_Bool (is_name_start byte)))
    (cases_Bool (is_digit byte))
  where
    is_doany : (word : List ℕ) → word_token word ≡ Some (Mark m.Doany) → word ≡ codes "doany"
    is_doany word e = ⊎_elim
        (λ doany. doany.0)
        (λ more. ⊎_elim
        (λ wher. absurd (let f = wher.1 in cc))
        (λ name. absurd (⊎_elim (λ yes. let f = sym (cond-true _ (Some (Name word)) None yes) ∙ name in cc) (λ differs. let f = sym (cond-false _ (Some (Name word)) None differs) ∙ name in cc) (cases_Bool (is_name word))))
        (by_word word (codes "where") (Some (Mark m.Where)) (cond (is_name word) (Some (Name word)) None) (Mark m.Doany) more))
        (by_word word (codes "doany") (Some (Mark m.Doany)) (cond (bytes_eq word (codes "where")) (Some (Mark m.Where)) (cond (is_name word) (Some (Name word)) None)) (Mark m.Doany) e)

-- the text of a nest begins with `doany`, blanks apart
pub nest_begins : (text : List ℕ) (tokens : List Token) (nest : RawNest) → Lexes text tokens → IsNest nest tokens → (tail : List ℕ) × (trimmed text ≡ codes "doany" ++ tail)
nest_begins text [] nest lexes is = absurd (let e = is.whole in cc)
nest_begins text (token ∷ tokens) nest lexes is =
    let first : token ≡ Mark m.Doany = let e = is.whole in cc in
    doany_begins (trimmed text) lexes.0 (lexes.1 ∙ ap (λ t. Some (t, lexes.0)) first)

pub nest_no_words : (text : List ℕ) (tokens : List Token) (nest : RawNest) (f : Form) → Lexes text tokens → IsNest nest tokens → IsWordForm f (words text) → ⊥
nest_no_words text tokens nest f lexes is spelled =
    let begins = nest_begins text tokens nest lexes is in
    no_word_form (trimmed text) (111 ∷ 97 ∷ 110 ∷ 121 ∷ begins.0) f begins.1 (subst (IsWordForm f) (sym (words-trimmed text)) spelled)

same_nest : (text : List ℕ) (a b : RawNest) → IsForm (form.Nest a) text → IsForm (form.Nest b) text → a ≡ b
same_nest text a b one two =
    let tokens = lexes_one text one.0 two.0 one.1 two.1 in
    let other : IsNest b one.0 = subst (IsNest b) (sym tokens) two.2 in
    same_Some a b (sym (complete_nest (suc (length one.0)) one.0 a one.2 (omega arith)) ∙ complete_nest (suc (length one.0)) one.0 b other (omega arith))

same_words : (ws : List (List ℕ)) (a b : Form) → IsWordForm a ws → IsWordForm b ws → a ≡ b
same_words ws a b one two = same_Some a b (sym (complete_form ws a one) ∙ complete_form ws b two)

pub one_form : (text : List ℕ) (a b : Form) → IsForm a text → IsForm b text → a ≡ b
one_form text (form.Nest a) (form.Nest b) one two = ap form.Nest (same_nest text a b one two)
one_form text (form.Nest a) b one two = absurd (nest_no_words text one.0 a b one.1 one.2 two)
one_form text a (form.Nest b) one two = absurd (nest_no_words text two.0 b a two.1 two.2 one)
one_form text a b one two = same_words (words text) a b one two

-- the words of a line that is no nest give its form
pub word_form_is : (text : List ℕ) (f : Form) → IsWordForm f (words text) → IsForm f text
word_form_is text (form.Nest nest) is = absurd is
word_form_is text f is = is

-- where a text begins with `doany` it has no form but a nest
pub no_form_of_nest : (text tail : List ℕ) → text ≡ codes "doany" ++ tail → ((nest : RawNest) (tokens : List Token) → Lexes text tokens → IsNest nest tokens → ⊥) → (f : Form) → IsForm f text → ⊥
no_form_of_nest text tail begins none (form.Nest nest) is = none nest is.0 is.1 is.2
no_form_of_nest text tail begins none f is = no_word_form text (111 ∷ 97 ∷ 110 ∷ 121 ∷ tail) f begins is

-- where it does not, it is no nest
pub no_form_of_words : (text : List ℕ) → trimmed text ≡ text → ((tail : List ℕ) → text ≡ codes "doany" ++ tail → ⊥) → form_of (words text) ≡ None → (f : Form) → IsForm f text → ⊥
no_form_of_words text whole other none (form.Nest nest) is = let begins = nest_begins text is.0 nest is.1 is.2 in other begins.0 (sym whole ∙ begins.1)
no_form_of_words text whole other none f is = let read = complete_form (words text) f is in cc
