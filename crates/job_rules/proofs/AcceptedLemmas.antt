-- An accepted job keeps the rules: each line adds what keeps them.
use Rattle.std.proofs.Common.{◌≡◌, ◌≢◌, ◌∙◌, ◌⊎◌, inl, inr, ℕ, ◌<◌, ◌≤◌, Bool, true, false, not, ◌||◌, ◌&&◌, ◌==◌, nat_le, nat_lt, nat_eq, if◌then◌else◌, ℤ, List, [], ◌∷◌, ◌++◌, map, Option, Some, None, length, get_or, refl, sym, ap, subst, arith}
use Rattle.std.specs.Prelude.{unsigned_abs}
use Rattle.std.specs.List.{All, AllPairs, list_any}
use Rattle.std.specs.Option.{option_map_or}
use Rattle.std.proofs.lemmas.Bool.{or_parts, and_parts}
use Rattle.std.proofs.lemmas.Bool.Decides.{nat_tests}
use Rattle.std.proofs.lemmas.List.{length_push, length-map}
use Rattle.std.proofs.lemmas.List.Elements.{All-head, All-nil, All-push, All-tail, All-weaker}
use Rattle.std.proofs.lemmas.List.Quantifiers.{all_pairs_push}
use Rattle.std.proofs.lemmas.Option.{slice_get_within}
use Rattle.bern_base.proofs.AffineLemmas.{within_abs}
use Rattle.bern_base.specs.Shapes.{dims_of, is_by_row}
use Rattle.bern_base.specs.declared.axes.Axis.{Axis}
use Rattle.bern_base.specs.declared.axes.Axis.TheVariants as axis
use Rattle.bern_base.specs.declared.job.ArrayDecl.{ArrayDecl}
use Rattle.bern_base.specs.declared.job.Checked.{Checked}
use Rattle.bern_base.specs.declared.job.ExtentDecl.{ExtentDecl}
use Rattle.bern_base.specs.declared.job.FormatDecl.{FormatDecl}
use Rattle.bern_base.specs.declared.job.Nest.{Nest}
use Rattle.bern_base.specs.declared.job.PlaceDecl.{PlaceDecl}
use Rattle.bern_base.specs.declared.job.Span.{Span}
use Rattle.bern_base.specs.declared.limits.TheConstants.{EXPRESSION_LEVELS, MOST_ARRAYS, MOST_EXTENTS, MOST_FORMATS, MOST_NESTS, MOST_OFFSET, MOST_OFFSETS, MOST_PLACES, MOST_REFERENCES, MOST_SIDE, MOST_TERMS, MOST_VARIABLES}
use Rattle.bern_base.specs.declared.raw.Form.{Form}
use Rattle.bern_base.specs.declared.raw.Form.TheVariants as form
use Rattle.bern_base.specs.declared.raw.JobLine.{JobLine}
use Rattle.bern_base.specs.declared.raw.JobText.{JobText}
use Rattle.bern_base.specs.declared.raw.RawKind.{RawKind}
use Rattle.bern_base.specs.declared.raw.RawKind.TheVariants as kind
use Rattle.bern_base.specs.declared.raw.RawNest.{RawNest}
use Rattle.bern_base.specs.declared.raw.RawRef.{RawRef}
use Rattle.bern_base.specs.declared.raw.RawShape.{RawShape}
use Rattle.bern_base.specs.declared.raw.RawShape.TheVariants as shape
use Rattle.bern_base.specs.declared.raw.RawVar.{RawVar}
use Rattle.bern_base.specs.declared.refusal.Rule.TheVariants as r
use Rattle.bern_base.specs.declared.shape.Shape.{Shape}
use Rattle.bern_base.specs.declared.shape.Shape.TheVariants as shaped
use Rattle.job_model.specs.Accepted.{Has, HasBlock, HasOffsets, IsAccepted, IsArrayOf, IsDenseAt, IsNestOf, IsPlaceOf, IsReadOf, IsSize, is_col, split_size}
use Rattle.job_model.specs.Runnable.{IsNear as IsNearSpan}
use Rattle.job_rules.specs.declared.names.Named.{Named}
use Rattle.job_rules.specs.declared.names.Named.TheVariants as named
use Rattle.job_rules.specs.declared.ranges.Range.{Range}
use Rattle.job_rules.specs.declared.resolved.ResolvedNest.{ResolvedNest}
use Rattle.job_rules.specs.declared.resolved.ResolvedRef.{ResolvedRef}
use Rattle.job_rules.specs.Known.{lookup}
use Rattle.job_rules.specs.State.{State, start, is_format, is_place, is_array, number_of, place_extent, shape_at}
use Rattle.job_rules.specs.Nests.{has_other_kind, has_sparse_target, is_too_wide, ranges_of, ref_is_wide, is_box_empty, ref_of_other_kind, ref_fails, is_no_count, leaves_array, leaves_box, lies_elsewhere, reads_elsewhere, is_one_to_one, reads_target, reads_target_otherwise}
use Rattle.job_rules.specs.Looked.{IsReadableNest, Scope, scope_of, named_in, nest_in, ref_of, span_of, guard_of, reads_of, sum_of, subscript}
use Rattle.job_rules.specs.First.{Accepts, AcceptsFrom, IsReadableForm, IsReadableText}
use Rattle.job_rules.specs.Terms.{terms_of}
use Rattle.job_rules.specs.Rules.{broken_rule, breaks, table, is_no_size, kind_past_limit, shape_past_limit, fits_shape, some_no_extent, is_no_extent_in, extent_on, looked, has_too_many_terms}
use Rattle.job_rules.specs.After.{after, kind_of, shape_of, size_of, rows_of, cols_of, checked_nest, checked_ref, checked_span, checked_guard, IsNear}
use Rattle.job_rules.proofs.ExpressionLemmas.{expr_is, sizes_are}
use Rattle.job_rules.proofs.InsideLemmas.{AreBelow, below_push, few_variables, in_ranges, narrow_scope}
use Rattle.job_rules.proofs.ListLemmas.{all_made, all_of, find-none, get-last, none_all, none_mapped}
use Rattle.job_rules.proofs.NestLemmas.{HasLimits, has_limits, near_bounds}
use Rattle.job_rules.proofs.ReadLemmas.{IsNarrow, Links, are_subscripts, element_is, is_narrow, near_is, one_to_one_is, own_is}
use Rattle.job_rules.proofs.ThereLemmas.{AreThere, Found, Grows, IsThere, all_there_still, array_named, dense_at, dense_is, extent_at, format_at, found_there, line_grows, not_false, place_at, text_grows, there_in, there_push}

-- what the rules say of one reference that a nest reads
record Kept (job : Checked) (ranges : List Range) (nest : ResolvedNest) (ref : ResolvedRef) : Type 0 where
  kind : ref_of_other_kind ref ≡ false
  inside : is_box_empty ranges ≡ false → leaves_array job ranges ref ≡ false
  own : reads_target (is_one_to_one ranges nest) nest ref ≡ false
  near : lies_elsewhere job nest.target ref ≡ false
  narrow : ref_is_wide ref ≡ false

-- what stands before a line keeps the rules of the whole job, whose lists are longer
record Sound (job : Checked) (s : State) : Type 0 where
  names : AreThere s.job s.names
  plain : AreBelow 0 s.names
  stored : All (λ a. Found s.job.formats a.format) s.job.arrays
  extent_count : length s.job.extents ≤ MOST_EXTENTS
  place_count : length s.job.places ≤ MOST_PLACES
  format_count : length s.job.formats ≤ MOST_FORMATS
  array_count : length s.job.arrays ≤ MOST_ARRAYS
  nest_count : length s.job.nests ≤ MOST_NESTS
  extents : All (λ e. IsSize e.size) s.job.extents
  places : All (IsPlaceOf job) s.job.places
  formats : All (λ f. HasOffsets f.shape) s.job.formats
  arrays : All (IsArrayOf job) s.job.arrays
  nests : All (IsNestOf job) s.job.nests
  turns : All (λ k. k < length s.job.nests) s.job.turns
  prints : All (IsDenseAt job) s.job.prints
  prints_once : AllPairs (λ a b. a ≢ b) s.job.prints

is_size : (n : ℕ) → is_no_size n ≡ false → IsSize n
is_size n h =
    let both = or_parts (nat_eq n 0) (nat_lt MOST_SIDE n) h in
    (grind (arith, nat_tests, both.0), grind (arith, nat_tests, both.1))

below_limit : (n limit : ℕ) → nat_le limit n ≡ false → n < limit
below_limit n limit h = grind (arith, nat_tests)

has_block : (kind : RawKind) → kind_past_limit kind ≡ false → HasBlock (kind_of kind)
has_block kind.Block h = tt
has_block (kind.Cyclic block) h = is_size block h
has_block (kind.Listed file) h = tt

near : (offset : ℤ) → nat_lt MOST_OFFSET (unsigned_abs offset) ≡ false → unsigned_abs offset ≤ MOST_OFFSET
near offset h = grind (arith, nat_tests)

has_offsets : (how : RawShape) → shape_past_limit how ≡ false → HasOffsets (shape_of how)
unfolding shape_past_limit
has_offsets (shape.Diagonal offsets) h =
    let both = or_parts (nat_lt MOST_OFFSETS (length offsets)) (list_any (λ offset. nat_lt MOST_OFFSET (unsigned_abs offset)) offsets) h in
    (grind (arith, nat_tests, both.0), none_all (λ offset. nat_lt MOST_OFFSET (unsigned_abs offset)) (λ offset. unsigned_abs offset ≤ MOST_OFFSET) near offsets both.1)
has_offsets shape.DenseOne h = tt
has_offsets shape.PackedOne h = tt
has_offsets shape.ListOne h = tt
has_offsets (shape.DenseDense outer) h = tt
has_offsets (shape.DensePacked outer) h = tt
has_offsets (shape.PackedPacked outer) h = tt
has_offsets shape.ListTwo h = tt
has_offsets shape.Jagged h = tt
has_offsets (shape.Permute file) h = tt

-- an array of one extent or two, and its split axis
dims_are : (s : Shape) → (dims_of s ≡ 1) ⊎ (dims_of s ≡ 2)
dims_are shaped.DenseOne = inl refl
dims_are shaped.PackedOne = inl refl
dims_are shaped.ListOne = inl refl
dims_are other = inr refl

not_col : (a b c : Bool) → not (a && (b || c)) ≡ true → (b ≡ true → a ≡ false) × (c ≡ true → a ≡ false)
not_col false b c h = (λ is. refl, λ is. refl)
not_col true true c h = absurd cc
not_col true false true h = absurd cc
not_col true false false h = (λ is. absurd cc, λ is. absurd cc)

-- what J6 says of an array
record Suits (s : Shape) (extents : ℕ) (by_col : Bool) : Type 0 where
  dims : extents ≡ dims_of s
  by_row : is_by_row s ≡ true → by_col ≡ false
  flat : extents ≡ 1 → by_col ≡ false

suits : (s : Shape) (extents : ℕ) (by_col : Bool) → not (fits_shape s extents by_col) ≡ false → Suits s extents by_col
unfolding fits_shape
suits s extents by_col h =
    let both = and_parts (dims_of s == extents) (not (by_col && (nat_eq extents 1 || is_by_row s))) (not_false (dims_of s == extents && not (by_col && (nat_eq extents 1 || is_by_row s))) h) in
    let axes = not_col by_col (nat_eq extents 1) (is_by_row s) both.1 in
    record { dims = grind (arith, nat_tests, both.0); by_row = axes.1; flat = λ one. axes.0 (grind (arith, nat_tests)) }

module _ (s : State) (extents : All (λ e. IsSize e.size) s.job.extents) where
  -- an extent that a name stands for
  abbrev IsNamed : List ℕ → Type 0
  IsNamed name = Found s.job.extents (number_of (lookup name s.names))

  size_is : (name : List ℕ) (has : IsNamed name) → has.0.size ≡ size_of s name
  size_is name has = sym (ap (λ o. option_map_or (λ e. e.size) o 0) has.1)

  sized : (name : List ℕ) → IsNamed name → IsSize (size_of s name)
  sized name has = subst IsSize (size_is name has) (all_of (λ e. IsSize e.size) s.job.extents (number_of (lookup name s.names)) has.0 extents has.1)

  -- the sizes of an array, and the extent of its split axis
  record HasSizes (axis : Axis) (names : List (List ℕ)) : Type 0 where
    rows : IsSize (rows_of s names)
    cols : IsSize (cols_of s names)
    flat : length names ≡ 1 → cols_of s names ≡ 1
    split : Has s.job.extents (extent_on s.names names axis) (λ e. e.size ≡ (if is_col axis then cols_of s names else rows_of s names))

  one_size : (ax : Axis) (name : List ℕ) → IsNamed name → is_col ax ≡ false → HasSizes ax (name ∷ [])
  unfolding extent_on
  one_size axis.Row name has row = record { rows = sized name has; cols = (omega arith, omega arith); flat = λ one. refl; split = (has.0, has.1, size_is name has) }
  one_size axis.Both name has row = record { rows = sized name has; cols = (omega arith, omega arith); flat = λ one. refl; split = (has.0, has.1, size_is name has) }
  one_size axis.Col name has row = absurd cc

  two_sizes : (ax : Axis) (row col : List ℕ) → IsNamed row → IsNamed col → HasSizes ax (row ∷ col ∷ [])
  unfolding extent_on
  two_sizes axis.Row row col row_has col_has = record { rows = sized row row_has; cols = sized col col_has; flat = λ one. absurd (omega (arith, one)); split = (row_has.0, row_has.1, size_is row row_has) }
  two_sizes axis.Both row col row_has col_has = record { rows = sized row row_has; cols = sized col col_has; flat = λ one. absurd (omega (arith, one)); split = (row_has.0, row_has.1, size_is row row_has) }
  two_sizes axis.Col row col row_has col_has = record { rows = sized row row_has; cols = sized col col_has; flat = λ one. absurd (omega (arith, one)); split = (col_has.0, col_has.1, size_is col col_has) }

  module _ (there : (name : List ℕ) → is_no_extent_in s.names name ≡ false → IsNamed name) where
    sizes : (shape : Shape) (ax : Axis) (names : List (List ℕ)) → Suits shape (length names) (is_col ax) → some_no_extent s.names names ≡ false → HasSizes ax names
    unfolding some_no_extent
    sizes shape ax [] fits none = elim (dims_are shape) [
      | inl one ↦ absurd (omega (arith, one, fits.dims))
      | inr two ↦ absurd (omega (arith, two, fits.dims))
    ]
    sizes shape ax (name ∷ []) fits none = one_size ax name (there name (or_parts (is_no_extent_in s.names name) false none).0) (fits.flat refl)
    sizes shape ax (row ∷ col ∷ []) fits none =
        let both = or_parts (is_no_extent_in s.names row) (is_no_extent_in s.names col || false) none in
        two_sizes ax row col (there row both.0) (there col (or_parts (is_no_extent_in s.names col) false both.1).0)
    sizes shape ax (row ∷ col ∷ other ∷ names) fits none = elim (dims_are shape) [
      | inl one ↦ absurd (omega (arith, one, fits.dims))
      | inr two ↦ absurd (omega (arith, two, fits.dims))
    ]

same_number : (a b : ℕ) → not (a == b) ≡ false → a ≡ b
same_number a b same = let yes = not_false (a == b) same in grind (arith, nat_tests)

few_references : (size : ℕ) → nat_lt MOST_REFERENCES size ≡ false → size ≤ MOST_REFERENCES
few_references size h = grind (arith, nat_tests)

near_is_near : (scope : Scope) (var : RawVar) → IsNear scope var → IsNearSpan (checked_span scope var)
unfolding checked_span
near_is_near scope var close = (within_abs _ 4194303 close.0, within_abs _ 4194303 close.1)

not_there : (k : ℕ) (xs : List ℕ) → list_any (nat_eq k) xs ≡ false → All (λ x. x ≢ k) xs
not_there k xs none = none_all (nat_eq k) (λ x. x ≢ k) (λ x other same. let yes : nat_eq k x ≡ true = grind (arith, nat_tests) in cc) xs none

-- a reference with its names looked up has the scope's variables alone
ref_narrow : (scope : Scope) (ref : RawRef) → AreBelow 4 scope.names × AreBelow 4 scope.variables → ref_is_wide (ref_of scope ref) ≡ false → IsNarrow (ref_of scope ref)
unfolding ref_of sum_of
ref_narrow scope ref below narrow = is_narrow (ref_of scope ref) (few_variables scope below (subscript ref 0).items) (few_variables scope below (subscript ref 1).items) narrow

module _ (job : Checked) (s : State) (sound : Sound job s) (grows : Grows s.job job) where
  there : (name : List ℕ) (what : Named) → lookup name s.names ≡ Some what → IsThere s.job what
  there name what found = found_there s.job name s.names what sound.names found

  abbrev Unbroken : Form → Type 0
  Unbroken line = broken_rule s line ≡ None

  rule_not : (line : Form) → Unbroken line → (k : ℕ) → k < 13 → breaks s line (get_or table k r.J3) ≡ false
  rule_not line none k within = find-none (breaks s line) table k r.J3 none within

  -- a name of a declaration that is added
  names_grow : (line : Form) (number : ℕ) (name : List ℕ) (what : Named) → IsThere (after s number line).job what → AreThere (after s number line).job (s.names ++ (name, what) ∷ [])
  names_grow line number name what one = there_push (after s number line).job s.names name what (all_there_still s.job (after s number line).job (line_grows s number line) s.names sound.names) one

  step_extent : (name : List ℕ) (size line : ℕ) → Unbroken (form.Extent name size) → Sound job (after s line (form.Extent name size))
  step_extent name size line none =
      let whole = form.Extent name size in
      let d : ExtentDecl = record { name = name; size = size } in
      let both = or_parts (is_no_size size) (nat_le MOST_EXTENTS (length s.job.extents)) (rule_not whole none 12 (omega arith)) in
      let few = below_limit (length s.job.extents) MOST_EXTENTS both.1 in
      record {
        names = names_grow whole line name (named.Extent (length s.job.extents)) (d, get-last s.job.extents d, tt);
        plain = below_push 0 s.names name (named.Extent (length s.job.extents)) sound.plain tt;
        stored = sound.stored;
        extent_count = omega (arith, length_push s.job.extents d);
        place_count = sound.place_count;
        format_count = sound.format_count;
        array_count = sound.array_count;
        nest_count = sound.nest_count;
        extents = All-push (λ e. IsSize e.size) s.job.extents d sound.extents (is_size size both.0);
        places = sound.places;
        formats = sound.formats;
        arrays = sound.arrays;
        nests = sound.nests;
        turns = sound.turns;
        prints = sound.prints;
        prints_once = sound.prints_once;
      }

  step_place : (name extent : List ℕ) (kind : RawKind) (line : ℕ) → Unbroken (form.Place name extent kind) → Sound job (after s line (form.Place name extent kind))
  step_place name extent kind line none =
      let whole = form.Place name extent kind in
      let both = or_parts (kind_past_limit kind) (nat_le MOST_PLACES (length s.job.places)) (rule_not whole none 12 (omega arith)) in
      let few = below_limit (length s.job.places) MOST_PLACES both.1 in
      let e = extent_at s.job (lookup extent s.names) (there extent) (rule_not whole none 2 (omega arith)) in
      let d : PlaceDecl = record { name = name; extent = number_of (lookup extent s.names); kind = kind_of kind; arrays_before = length s.job.arrays } in
      record {
        names = names_grow whole line name (named.Place (length s.job.places)) (d, get-last s.job.places d, tt);
        plain = below_push 0 s.names name (named.Place (length s.job.places)) sound.plain tt;
        stored = sound.stored;
        extent_count = sound.extent_count;
        place_count = omega (arith, length_push s.job.places d);
        format_count = sound.format_count;
        array_count = sound.array_count;
        nest_count = sound.nest_count;
        extents = sound.extents;
        places = All-push (IsPlaceOf job) s.job.places d sound.places (record { extent = slice_get_within job.extents d.extent e.0 (grows.extents d.extent e.0 e.1); block = has_block kind both.0 });
        formats = sound.formats;
        arrays = sound.arrays;
        nests = sound.nests;
        turns = sound.turns;
        prints = sound.prints;
        prints_once = sound.prints_once;
      }

  step_format : (name : List ℕ) (how : RawShape) (line : ℕ) → Unbroken (form.Format name how) → Sound job (after s line (form.Format name how))
  step_format name how line none =
      let whole = form.Format name how in
      let both = or_parts (shape_past_limit how) (nat_le MOST_FORMATS (length s.job.formats)) (rule_not whole none 12 (omega arith)) in
      let few = below_limit (length s.job.formats) MOST_FORMATS both.1 in
      let d : FormatDecl = record { name = name; shape = shape_of how } in
      record {
        names = names_grow whole line name (named.Format (length s.job.formats)) (d, get-last s.job.formats d, tt);
        plain = below_push 0 s.names name (named.Format (length s.job.formats)) sound.plain tt;
        stored = All-weaker (λ a. Found s.job.formats a.format) (λ a. Found (s.job.formats ++ d ∷ []) a.format) (λ a has. (has.0, (line_grows s line whole).formats a.format has.0 has.1, tt)) s.job.arrays sound.stored;
        extent_count = sound.extent_count;
        place_count = sound.place_count;
        format_count = omega (arith, length_push s.job.formats d);
        array_count = sound.array_count;
        nest_count = sound.nest_count;
        extents = sound.extents;
        places = sound.places;
        formats = All-push (λ f. HasOffsets f.shape) s.job.formats d sound.formats (has_offsets how both.0);
        arrays = sound.arrays;
        nests = sound.nests;
        turns = sound.turns;
        prints = sound.prints;
        prints_once = sound.prints_once;
      }

  step_array : (name : List ℕ) (extents : List (List ℕ)) (format : List ℕ) (ax : Axis) (place : List ℕ) (file : Option (List ℕ)) (line : ℕ) → Unbroken (form.Array name extents format ax place file) → Sound job (after s line (form.Array name extents format ax place file))
  step_array name extents format ax place file line none =
      let whole = form.Array name extents format ax place file in
      let kinds = or_parts (some_no_extent s.names extents || not (is_format (lookup format s.names))) (not (is_place (lookup place s.names))) (rule_not whole none 2 (omega arith)) in
      let first = or_parts (some_no_extent s.names extents) (not (is_format (lookup format s.names))) kinds.0 in
      let f = format_at s.job (lookup format s.names) (there format) first.1 in
      let p = place_at s.job (lookup place s.names) (there place) kinds.1 in
      let shape_is : shape_at s.job.formats (number_of (lookup format s.names)) ≡ f.0.shape = ap (λ o. option_map_or (λ d. d.shape) o shaped.DenseOne) f.1 in
      let fits = suits f.0.shape (length extents) (is_col ax) (subst (λ x. not (fits_shape x (length extents) (is_col ax)) ≡ false) shape_is (rule_not whole none 3 (omega arith))) in
      let are = sizes s sound.extents (λ n has. extent_at s.job (lookup n s.names) (there n) has) f.0.shape ax extents fits first.0 in
      let dealt : place_extent s.job.places (number_of (lookup place s.names)) ≡ p.0.extent = ap (λ o. option_map_or (λ d. d.extent) o 0) p.1 in
      let split : extent_on s.names extents ax ≡ p.0.extent = same_number (extent_on s.names extents ax) (place_extent s.job.places (number_of (lookup place s.names))) (rule_not whole none 4 (omega arith)) ∙ dealt in
      let few = below_limit (length s.job.arrays) MOST_ARRAYS (rule_not whole none 12 (omega arith)) in
      let d : ArrayDecl = record { name = name; dims = length extents; rows = rows_of s extents; cols = cols_of s extents; format = number_of (lookup format s.names); axis = ax; place = number_of (lookup place s.names); file = file } in
      let part = are.split in
      record {
        names = names_grow whole line name (named.Array (length s.job.arrays)) (d, get-last s.job.arrays d, tt);
        plain = below_push 0 s.names name (named.Array (length s.job.arrays)) sound.plain tt;
        stored = All-push (λ a. Found s.job.formats a.format) s.job.arrays d sound.stored f;
        extent_count = sound.extent_count;
        place_count = sound.place_count;
        format_count = sound.format_count;
        array_count = omega (arith, length_push s.job.arrays d);
        nest_count = sound.nest_count;
        extents = sound.extents;
        places = sound.places;
        formats = sound.formats;
        arrays = All-push (IsArrayOf job) s.job.arrays d sound.arrays (record {
          format = (f.0, grows.formats d.format f.0 f.1, (fits.dims, fits.by_row));
          place = (p.0, grows.places d.place p.0 p.1, subst (λ n. Has job.extents n (λ e. e.size ≡ split_size d)) split (part.0, grows.extents (extent_on s.names extents ax) part.0 part.1, part.2));
          rows = are.rows;
          cols = are.cols;
          flat = λ one. (are.flat one, fits.flat one);
        });
        nests = sound.nests;
        turns = sound.turns;
        prints = sound.prints;
        prints_once = sound.prints_once;
      }

  step_print : (name : List ℕ) (line : ℕ) → Unbroken (form.Print name) → Sound job (after s line (form.Print name))
  step_print name line none =
      let whole = form.Print name in
      let kind = rule_not whole none 2 (omega arith) in
      let has = array_named s.job (lookup name s.names) (there name) kind in
      let k = number_of (lookup name s.names) in
      let fresh : list_any (nat_eq k) s.job.prints ≡ false = sym (ap (λ b. b && list_any (nat_eq k) s.job.prints) (not_false (is_array (lookup name s.names)) kind)) ∙ rule_not whole none 0 (omega arith) in
      record {
        names = sound.names;
        plain = sound.plain;
        stored = sound.stored;
        extent_count = sound.extent_count;
        place_count = sound.place_count;
        format_count = sound.format_count;
        array_count = sound.array_count;
        nest_count = sound.nest_count;
        extents = sound.extents;
        places = sound.places;
        formats = sound.formats;
        arrays = sound.arrays;
        nests = sound.nests;
        turns = sound.turns;
        prints = All-push (IsDenseAt job) s.job.prints k sound.prints (dense_at s.job job grows k has sound.stored (rule_not whole none 8 (omega arith)));
        prints_once = all_pairs_push (λ a b. a ≢ b) s.job.prints k sound.prints_once (not_there k s.job.prints fresh);
      }

  module _ (nest : RawNest) (none : Unbroken (form.Nest nest)) where
    abbrev scope : Scope
    scope = scope_of s nest

    abbrev resolved : ResolvedNest
    resolved = looked s nest

    abbrev ranges : List Range
    ranges = ranges_of resolved

    abbrev vars : List Span
    vars = map (checked_span scope) nest.vars

    abbrev raw : List RawRef
    raw = reads_of EXPRESSION_LEVELS nest.body

    counted : ((nat_le MOST_NESTS (length s.job.nests) || is_too_wide ranges resolved) ≡ false) × (has_too_many_terms nest ≡ false)
    counted = or_parts (nat_le MOST_NESTS (length s.job.nests) || is_too_wide ranges resolved) (has_too_many_terms nest) (rule_not (form.Nest nest) none 12 (omega arith))

    narrow : is_too_wide ranges resolved ≡ false
    narrow = (or_parts (nat_le MOST_NESTS (length s.job.nests)) (is_too_wide ranges resolved) counted.0).1

    limits : HasLimits ranges resolved
    limits = has_limits ranges resolved narrow

    few_vars : length nest.vars ≤ MOST_VARIABLES
    unfolding nest_in
    few_vars = let many = length-map nest.vars (span_of scope) in let few = limits.few in omega (arith, many, few)

    links : Links vars ranges
    unfolding nest_in ranges_of
    links point inside = in_ranges scope nest.vars few_vars point inside

    below : AreBelow 4 scope.names × AreBelow 4 scope.variables
    below = narrow_scope s.names nest.vars s.job.extents sound.plain few_vars

    array_is : (ref : RawRef) → ref_of_other_kind (ref_of scope ref) ≡ false → Found s.job.arrays (number_of (ref_of scope ref).array)
    unfolding ref_of
    array_is ref kind =
        array_named s.job (named_in scope ref.name) (there_in s nest ref.name sound.names) (or_parts (not (is_array (named_in scope ref.name))) (ref_fails is_no_count (ref_of scope ref)) kind).0

    kinds : (ref_of_other_kind (ref_of scope nest.target) ≡ false) × (list_any ref_of_other_kind (map (ref_of scope) raw) ≡ false)
    unfolding nest_in has_other_kind
    kinds =
        let all = or_parts _ (list_any ref_of_other_kind resolved.reads) (rule_not (form.Nest nest) none 2 (omega arith)) in
        ((or_parts _ (ref_of_other_kind resolved.target) all.0).1, all.1)

    target_narrow : IsNarrow (ref_of scope nest.target)
    unfolding nest_in
    target_narrow = ref_narrow scope nest.target below limits.target

    -- J10, for the target and for all that is read
    stays : is_box_empty ranges ≡ false → (leaves_array s.job ranges (ref_of scope nest.target) ≡ false) × (list_any (leaves_array s.job ranges) (map (ref_of scope) raw) ≡ false)
    unfolding nest_in leaves_box
    stays some =
        or_parts (leaves_array s.job ranges resolved.target) (list_any (leaves_array s.job ranges) resolved.reads)
        (sym (ap (λ b. b && (leaves_array s.job ranges resolved.target || list_any (leaves_array s.job ranges) resolved.reads)) (ap not some)) ∙ rule_not (form.Nest nest) none 7 (omega arith))

    -- what the rules say of each reference that is read
    abbrev Keeps : RawRef → Type 0
    Keeps ref = Kept s.job ranges resolved (ref_of scope ref)

    kept : All Keeps raw
    unfolding nest_in reads_elsewhere reads_target_otherwise
    kept k d within = record {
      kind = none_mapped ref_of_other_kind (ref_of scope) raw kinds.1 k d within;
      inside = λ some. none_mapped (leaves_array s.job ranges) (ref_of scope) raw (stays some).1 k d within;
      own = none_mapped (reads_target (is_one_to_one ranges resolved) resolved) (ref_of scope) raw (rule_not (form.Nest nest) none 9 (omega arith)) k d within;
      near = none_mapped (lies_elsewhere s.job resolved.target) (ref_of scope) raw (rule_not (form.Nest nest) none 11 (omega arith)) k d within;
      narrow = none_mapped ref_is_wide (ref_of scope) raw limits.reads k d within;
    }

    module _ (line : ℕ) where
      abbrev checked : Nest
      checked = checked_nest scope line nest

      read_is : (ref : RawRef) → Keeps ref → IsReadOf job checked (checked_ref scope ref)
      unfolding nest_in checked_ref
      read_is ref keeps =
          let has = array_is ref keeps.kind in
          let own = ref_narrow scope ref below keeps.narrow in
          record {
            element = (has.0, element_is s.job job grows vars ranges links (ref_of scope ref) own has.0 has.1 keeps.inside);
            near = near_is s.job job grows (ref_of scope nest.target) (ref_of scope ref) (array_is nest.target kinds.0) has sound.stored target_narrow own keeps.near;
            own = λ same. let parts = own_is vars ranges links resolved target_narrow (ref_of scope ref) own keeps.own same in record { row = parts.0; col = parts.1; one_to_one = parts.2 };
            subscripts = are_subscripts (ref_of scope ref) own;
          }

      replaces_is : nest.replace ≡ true → is_one_to_one ranges resolved ≡ true
      replaces_is replaces =
          not_false (is_one_to_one ranges resolved) (sym (ap (λ b. b && not (is_one_to_one ranges resolved)) replaces) ∙ rule_not (form.Nest nest) none 10 (omega arith))

      nest_is : IsReadableNest nest → IsNestOf job checked
      unfolding nest_in checked_ref has_sparse_target has_too_many_terms
      nest_is readable =
          let target = array_is nest.target kinds.0 in
          let dense = dense_is s.job job grows (number_of (ref_of scope nest.target).array) target.0 target.1 sound.stored (rule_not (form.Nest nest) none 8 (omega arith)) in
          let many_vars = length-map nest.vars (checked_span scope) in
          let many_guards = length-map nest.guards (checked_guard scope) in
          let resolved_guards = length-map nest.guards (guard_of scope) in
          let few_guards = limits.guards in
          let terms = or_parts (nat_lt MOST_TERMS (length (terms_of EXPRESSION_LEVELS nest.body))) (list_any (nat_lt MOST_REFERENCES) (terms_of EXPRESSION_LEVELS nest.body)) counted.1 in
          record {
            few = omega (arith, many_vars, few_vars);
            near = all_made (IsNear scope) IsNearSpan (checked_span scope) nest.vars (near_is_near scope) (near_bounds scope nest narrow);
            guards = omega (arith, many_guards, resolved_guards, few_guards);
            target = record {
              array = target.0;
              element = element_is s.job job grows vars ranges links (ref_of scope nest.target) target_narrow target.0 target.1 (λ some. (stays some).0);
              whole = dense;
            };
            subscripts = are_subscripts (ref_of scope nest.target) target_narrow;
            replaces = λ replaces. one_to_one_is vars ranges links resolved target_narrow (replaces_is replaces);
            body = expr_is scope (IsReadOf job checked) EXPRESSION_LEVELS nest.body readable.shallow (All-weaker Keeps (λ ref. IsReadOf job checked (checked_ref scope ref)) read_is raw kept);
            terms = subst (λ l. length l ≤ MOST_TERMS) (sym (sizes_are scope EXPRESSION_LEVELS nest.body)) (grind (arith, nat_tests, terms.0));
            references = subst (All (λ size. size ≤ MOST_REFERENCES)) (sym (sizes_are scope EXPRESSION_LEVELS nest.body)) (none_all (nat_lt MOST_REFERENCES) (λ size. size ≤ MOST_REFERENCES) few_references (terms_of EXPRESSION_LEVELS nest.body) terms.1);
          }

  step_nest : (nest : RawNest) (line : ℕ) → IsReadableNest nest → Unbroken (form.Nest nest) → Sound job (after s line (form.Nest nest))
  step_nest nest line readable none =
      let d = checked_nest (scope_of s nest) line nest in
      let n = length s.job.nests in
      let few = below_limit n MOST_NESTS (or_parts (nat_le MOST_NESTS n) (is_too_wide (ranges_of (looked s nest)) (looked s nest)) (counted nest none).0).0 in
      let more = length_push s.job.nests d in
      record {
        names = sound.names;
        plain = sound.plain;
        stored = sound.stored;
        extent_count = sound.extent_count;
        place_count = sound.place_count;
        format_count = sound.format_count;
        array_count = sound.array_count;
        nest_count = omega (arith, more, few);
        extents = sound.extents;
        places = sound.places;
        formats = sound.formats;
        arrays = sound.arrays;
        nests = All-push (IsNestOf job) s.job.nests d sound.nests (nest_is nest none line readable);
        turns = All-push (λ k. k < length (s.job.nests ++ d ∷ [])) s.job.turns n (All-weaker (λ k. k < n) (λ k. k < length (s.job.nests ++ d ∷ [])) (λ k low. omega (arith, more, low)) s.job.turns sound.turns) (omega (arith, more));
        prints = sound.prints;
        prints_once = sound.prints_once;
      }

  step_line : (line : Form) (number : ℕ) → IsReadableForm line → Unbroken line → Sound job (after s number line)
  step_line (form.Extent name size) number readable none = step_extent name size number none
  step_line (form.Place name extent kind) number readable none = step_place name extent kind number none
  step_line (form.Format name how) number readable none = step_format name how number none
  step_line (form.Array name extents format ax place file) number readable none = step_array name extents format ax place file number none
  step_line (form.Nest nest) number readable none = step_nest nest number readable none
  step_line (form.Print name) number readable none = step_print name number none

abbrev IsReadableLine : JobLine → Type 0
IsReadableLine line = IsReadableForm line.form

sound_at_end : (job : Checked) (s : State) (lines : List JobLine) (broken : Option ℕ) → All IsReadableLine lines → Sound job s → AcceptsFrom s lines broken job → (t : State) × (job ≡ t.job) × Sound job t
sound_at_end job s [] None readable sound is = (s, is, sound)
sound_at_end job s [] (Some line) readable sound is = absurd is
sound_at_end job s (l ∷ lines) broken readable sound is =
    sound_at_end job (after s l.number l.form) lines broken (All-tail IsReadableLine l lines readable)
    (step_line job s sound (text_grows s (l ∷ lines) broken job is) l.form l.number (All-head IsReadableLine l lines readable) is.0) is.1

sound_start : (job : Checked) → Sound job start
sound_start job = record {
  names = tt;
  plain = tt;
  stored = All-nil (λ a. Found start.job.formats a.format);
  extent_count = omega arith;
  place_count = omega arith;
  format_count = omega arith;
  array_count = omega arith;
  nest_count = omega arith;
  extents = All-nil (λ e. IsSize e.size);
  places = All-nil (IsPlaceOf job);
  formats = All-nil (λ f. HasOffsets f.shape);
  arrays = All-nil (IsArrayOf job);
  nests = All-nil (IsNestOf job);
  turns = All-nil (λ k. k < 0);
  prints = All-nil (IsDenseAt job);
  prints_once = λ i j d less within. absurd (omega (arith, within));
}

-- what is sound of all lines keeps the rules
accepted : (job : Checked) (s : State) → job ≡ s.job → Sound job s → IsAccepted job
accepted job s is sound = record {
  extent_count = subst (λ j. length j.extents ≤ MOST_EXTENTS) (sym is) sound.extent_count;
  place_count = subst (λ j. length j.places ≤ MOST_PLACES) (sym is) sound.place_count;
  format_count = subst (λ j. length j.formats ≤ MOST_FORMATS) (sym is) sound.format_count;
  array_count = subst (λ j. length j.arrays ≤ MOST_ARRAYS) (sym is) sound.array_count;
  nest_count = subst (λ j. length j.nests ≤ MOST_NESTS) (sym is) sound.nest_count;
  extents = subst (λ j. All (λ e. IsSize e.size) j.extents) (sym is) sound.extents;
  places = subst (λ j. All (IsPlaceOf job) j.places) (sym is) sound.places;
  formats = subst (λ j. All (λ f. HasOffsets f.shape) j.formats) (sym is) sound.formats;
  arrays = subst (λ j. All (IsArrayOf job) j.arrays) (sym is) sound.arrays;
  nests = subst (λ j. All (IsNestOf job) j.nests) (sym is) sound.nests;
  turns = subst (λ j. All (λ k. k < length j.nests) j.turns) (sym is) sound.turns;
  prints = subst (λ j. All (IsDenseAt job) j.prints) (sym is) sound.prints;
  prints_once = subst (λ j. AllPairs (λ a b. a ≢ b) j.prints) (sym is) sound.prints_once;
}

-- what the rules accept keeps them
pub accepted_keeps : (text : JobText) (job : Checked) → IsReadableText text → Accepts text job → IsAccepted job
accepted_keeps text job readable accepts =
    let end = sound_at_end job start text.lines text.broken readable (sound_start job) accepts in
    accepted job end.0 end.1 end.2
