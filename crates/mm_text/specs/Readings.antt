-- Which bytes what a feed keeps stands for.
use Rattle.std.specs.Prelude.{◌≡◌, ℕ, List, ◌++◌, Result}
use Rattle.bern_base.specs.declared.matrix.Matrix.{Matrix}
use Rattle.mm_profile.specs.Lines.{lines}
use Rattle.mm_profile.specs.Profile.{Fault}
use Rattle.mm_text.specs.Stages.{outcome}
use Rattle.mm_text.specs.declared.reading.Reading.{Reading}

-- what becomes of the reading at the bytes that follow
abbrev pub rest_of : Reading → List ℕ → Result Matrix Fault
rest_of reading more = outcome reading.stage reading.number (lines (reading.line.items ++ more))

-- the reading after these bytes does with what follows as the one before does with these bytes and what follows
abbrev pub Reads : Reading → List ℕ → Reading → Type 0
Reads before bytes after = (more : List ℕ) → rest_of before (bytes ++ more) ≡ rest_of after more
