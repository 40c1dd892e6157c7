-- The lines that say why a command gives no text.
use Rattle.std.specs.Prelude.{ℕ, List, ◌++◌, codes, decimal}
use Rattle.bern_base.specs.Rules.{rule_name}
use Rattle.bern_base.specs.declared.refusal.Rule.{Rule}
use Rattle.bern_base.specs.declared.refusal.Refusal.{Refusal}
use Rattle.bern_base.specs.declared.refusal.Refusal.TheVariants.{Words, File}

-- the line in its file, and the rule
abbrev pub place_text : ℕ → Rule → List ℕ
place_text line rule = decimal line ++ (codes " " ++ (rule_name rule ++ codes "\n"))

abbrev pub refusal_line : Refusal → List ℕ
refusal_line (Words rule) = codes "refused words " ++ (rule_name rule ++ codes "\n")
refusal_line (File file line rule) = (codes "refused " ++ (file ++ codes ":")) ++ place_text line rule

abbrev pub read_fault_line : List ℕ → List ℕ
read_fault_line file = codes "read fault " ++ (file ++ codes "\n")

abbrev pub write_fault_line : List ℕ
write_fault_line = codes "write fault\n"

abbrev pub memory_line : List ℕ
memory_line = codes "out of memory\n"
