-- The marks of a nest line, the longer ones first.
use Rattle.std.specs.Prelude.{ℕ, Option, Some, None, if◌then◌else◌, ◌==◌}
use Rattle.job_text.specs.declared.tokens.Mark.{Mark}
use Rattle.job_text.specs.declared.tokens.Mark.TheVariants as m

-- of a byte and `=`
abbrev pub equal_mark : ℕ → Option Mark
equal_mark first =
    if first == 43 then Some m.Add else if first == 60 then Some m.Le else if first == 62 then Some m.Ge
    else if first == 61 then Some m.Eq else if first == 33 then Some m.Ne else None

-- of two bytes
abbrev pub double_mark : ℕ → ℕ → Option Mark
double_mark first second =
    if second == 61 then equal_mark first else if second == 46 then (if first == 46 then Some m.Dots else None) else None

-- of one byte
abbrev pub single_mark : ℕ → Option Mark
single_mark byte =
    if byte == 91 then Some m.Open else if byte == 93 then Some m.Close
    else if byte == 40 then Some m.Paren else if byte == 41 then Some m.Unparen
    else if byte == 44 then Some m.Comma else if byte == 58 then Some m.Colon
    else if byte == 42 then Some m.Star else if byte == 43 then Some m.Plus else if byte == 45 then Some m.Minus
    else if byte == 61 then Some m.Assign else if byte == 60 then Some m.Lt else if byte == 62 then Some m.Gt
    else None
