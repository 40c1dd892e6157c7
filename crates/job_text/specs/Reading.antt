-- What the readers answer, as functions of the words and tokens.
use Rattle.std.specs.Prelude.{◌≡◌, ℕ, ◌^◌, Option, Some, None, Result, Ok, Err, List, nat_lt, if◌then◌else◌}
use Rattle.std.specs.Borrow.{Bor}
use Rattle.std.specs.Str.Parse.{digits_value}
use Rattle.job_text.specs.declared.stop.Stop.{Stop}
use Rattle.job_text.specs.declared.stop.Stop.TheVariants as stop
use Rattle.job_text.specs.Names.{is_numeral}

-- an answer without a form says that there is none; want of memory says nothing
abbrev pub Fails : {A : Type 0} → Stop → Option A → Type 0
Fails stop.NoForm read = read ≡ None
Fails stop.NoMemory read = Unit {0}

abbrev pub Gives : {T A : Type 0} → (T → A) → Result T Stop → Option A → Type 0
Gives view (Ok x) read = read ≡ Some (view x)
Gives view (Err e) read = Fails e read

-- what was read, with what is left
abbrev pub seen : {A B : Type 0} → A × Bor B → A × B
seen p = (p.0, p.1.now)

abbrev pub following : {B : Type 0} → Bor B → Unit {0} × B
following rest = (tt, rest.now)

abbrev pub named : {A B : Type 0} → Bor A × Bor B → A × B
named p = (p.0.now, p.1.now)

-- digits whose value fits
abbrev pub value_of : List ℕ → Option ℕ
value_of word = if nat_lt (digits_value 10 word) (2 ^ 64) then Some (digits_value 10 word) else None

abbrev pub number_of : List ℕ → Option ℕ
number_of word = if is_numeral word then value_of word else None
