-- Lists of calls that are to fail, and counts beside the files of a shelf of memory.
use Rattle.std.specs.Prelude.{ℕ, ◌+◌, ◌-◌, ◌^◌, Bool, true, ◌&&◌, List, slice_index, slice_set, None, Some, ◌==◌, min}
use Rattle.std.specs.List.{list_any}
use Rattle.std.specs.Str.{bytes_eq}
use Rattle.std.specs.declared.option.Option.{Option}
use Rattle.bern_ports.specs.Files.{Files, place_of}

-- a call of this number on this name is to fail
abbrev pub is_listed : List (List ℕ × ℕ) → List ℕ → ℕ → Bool
is_listed fails name call = list_any (λ f. bytes_eq f.0 name && f.1 == call) fails

abbrev pub count_at : List ℕ → Option ℕ → ℕ
count_at counts None = 0
count_at counts (Some i) = slice_index counts i

-- the count of a name; a name that is not there has none
abbrev pub count_of : Files → List ℕ → List ℕ → ℕ
count_of files counts name = count_at counts (place_of files name)

-- a call on a name fails where it is listed, and where no file has the name
abbrev pub fails_at : List (List ℕ × ℕ) → List ℕ → List ℕ → Option ℕ → Bool
fails_at fails calls name None = true
fails_at fails calls name (Some i) = is_listed fails name (slice_index calls i)

abbrev pub is_faulty : Files → List (List ℕ × ℕ) → List ℕ → List ℕ → Bool
is_faulty files fails calls name = fails_at fails calls name (place_of files name)

-- one more in a count of 64 bits, which stays at its end
abbrev pub one_more : ℕ → ℕ
one_more n = min (n + 1) (2 ^ 64 - 1)

abbrev pub counted : List ℕ → Option ℕ → List ℕ
counted counts None = counts
counted counts (Some i) = slice_set counts i (one_more (slice_index counts i))
