-- Names and what they stand for.
use Rattle.std.specs.Prelude.{ℕ, List, Option}
use Rattle.std.specs.Str.{bytes_eq}
use Rattle.std.specs.Map as map
use denote.Ref.{Bor}
use Rattle.job_rules.specs.declared.names.Named.{Named}

-- names in the order of their declaration, with what they stand for
abbrev pub Known : Type 0
Known = List (List ℕ × Named)

-- what a name stands for, if it is there
abbrev pub lookup : List ℕ → Known → Option Named
lookup name known = map.lookup (bytes_eq name) known

-- an entry of a table whose names are borrowed
abbrev pub seen : Bor (List ℕ) × Named → List ℕ × Named
seen entry = (entry.0.now, entry.1)
