-- Files as a finite map from names to bytes, and the faults on each name.
use Rattle.std.specs.Prelude.{◌≡◌, ◌≢◌, ℕ, ◌≤◌, Bool, List, [], slice_index_or, position, None, Some, IsSome, IfSome, OnOk, OnErr}
use Rattle.std.specs.List.{AllPairs}
use Rattle.std.specs.Str.{bytes_eq}
use Rattle.std.specs.declared.option.Option.{Option}
use Rattle.std.specs.declared.result.Result.{Result}
use Rattle.bern_ports.specs.Causes.{Rose}

-- names with their bytes; no name stands twice
abbrev pub Files : Type 0
Files = List (List ℕ × List ℕ)

abbrev pub is_named : List ℕ → List ℕ × List ℕ → Bool
is_named name file = bytes_eq file.0 name

abbrev pub place_of : Files → List ℕ → Option ℕ
place_of files name = position (is_named name) files

abbrev pub file_at : Files → ℕ → List ℕ × List ℕ
file_at files i = slice_index_or files i ([], [])

abbrev pub bytes_at : Files → Option ℕ → Option (List ℕ)
bytes_at files None = None
bytes_at files (Some i) = Some (file_at files i).1

-- the bytes of a file that is there
abbrev pub bytes_of : Files → List ℕ → Option (List ℕ)
bytes_of files name = bytes_at files (place_of files name)

-- of the counts by name: a call that ends well leaves all, one that fails changes at most its own, which rose where the file is there
pub record BlamesOnly {T E : Type 0} (files : Option Files) (name : List ℕ) (before now : List ℕ → ℕ) (result : Result T E) : Type 0 where
  pub later : (n : List ℕ) → before n ≤ now n
  pub ok : OnOk result ((n : List ℕ) → now n ≡ before n)
  pub others : (n : List ℕ) → n ≢ name → now n ≡ before n
  pub own : OnErr result (IfSome files (λ fs. IsSome (bytes_of fs name) → Rose (before name) (now name)))

-- reading stands at the first byte of a file that is there
pub record StandsAtStart (files : Files) (name begun : List ℕ) (rest : Option (List ℕ)) : Type 0 where
  pub there : IsSome (bytes_of files name)
  pub left : rest ≡ bytes_of files name
  pub current : begun ≡ name

-- no name stands twice
abbrev pub AreOnce : Files → Type 0
AreOnce files = AllPairs (λ a b. a.0 ≢ b.0) files
