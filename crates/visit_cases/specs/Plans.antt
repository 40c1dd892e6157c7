-- The plans of the tests.
use Rattle.std.specs.Prelude.{ℕ, ◌==◌, ◌/◌, ◌%◌, true, if◌then◌else◌, List, [], ◌∷◌, Some, None, ℤ, pos, ◌+ℤ◌}
use Rattle.bern_base.specs.Affine.{number_of}
use Rattle.walks.specs.Courses.{Search, Range, Drive, Flat, Merge}
use Rattle.visits.specs.Ways.{Way}

abbrev pub searches_at : ℕ → List Search
searches_at d = if d == 1 then record { reference = 0; level = 0 } ∷ [] else []

-- the loops i 0..3 and j 0..3
abbrev pub square_ends : ℕ → ℤ
square_ends v = if v == 0 then pos 3 else (if v == 1 then pos 3 else pos 1)

-- A[i,j] in compressed rows: all values of i, each searched among the rows, and the columns of its row
abbrev pub rows_way : Way
rows_way = record {
  references = 1;
  strides = Range 0 ∷ Drive 0 1 1 ∷ [];
  unused = 2 ∷ 3 ∷ [];
  low = λ v. pos 0;
  high = square_ends;
  test = λ d p. true;
  searches = searches_at;
  view = λ r. 0;
  index = λ r level p. number_of p level;
  slope = λ r level v. pos 1;
  base = λ r level v p. pos 0;
  part = λ r v p e. None;
  shift = λ left left_level right right_level v p. pos 0;
}

-- A[i,j] in compressed rows: its rows, and the columns of each
abbrev pub entries_way : Way
entries_way = record {
  references = 1;
  strides = Drive 0 0 0 ∷ Drive 0 1 1 ∷ [];
  unused = 2 ∷ 3 ∷ [];
  low = λ v. pos 0;
  high = square_ends;
  test = λ d p. true;
  searches = λ d. [];
  view = λ r. 0;
  index = λ r level p. number_of p level;
  slope = λ r level v. pos 1;
  base = λ r level v p. pos 0;
  part = λ r v p e. None;
  shift = λ left left_level right right_level v p. pos 0;
}

-- the loop i 0..6
abbrev pub line_ends : ℕ → ℤ
line_ends v = if v == 0 then pos 6 else pos 1

-- X[i] * Y[i+1], both packed: their rows merged
abbrev pub pair_way : Way
pair_way = record {
  references = 2;
  strides = Merge 0 0 1 0 0 ∷ [];
  unused = 1 ∷ 2 ∷ 3 ∷ [];
  low = λ v. pos 0;
  high = line_ends;
  test = λ d p. true;
  searches = λ d. [];
  view = λ r. r;
  index = λ r level p. number_of p 0 +ℤ pos r;
  slope = λ r level v. pos 1;
  base = λ r level v p. pos r;
  part = λ r v p e. None;
  shift = λ left left_level right right_level v p. pos 1;
}

-- V[3*i+j] in one packed level, for i 0..3 and j 0..3: its indices give both variables
abbrev pub grid_way : Way
grid_way = record {
  references = 1;
  strides = Flat 0 (0 ∷ 1 ∷ []) ∷ [];
  unused = 2 ∷ 3 ∷ [];
  low = λ v. pos 0;
  high = square_ends;
  test = λ d p. true;
  searches = λ d. [];
  view = λ r. 0;
  index = λ r level p. number_of p 0 +ℤ number_of p 0 +ℤ number_of p 0 +ℤ number_of p 1;
  slope = λ r level v. pos 1;
  base = λ r level v p. pos 0;
  part = λ r v p e. if v == 0 then Some (pos (e / 3)) else Some (pos (e % 3));
  shift = λ left left_level right right_level v p. pos 0;
}
