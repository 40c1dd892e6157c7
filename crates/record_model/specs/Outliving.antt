-- Records outlive values.
use Rattle.std.specs.Prelude.{ℕ, List}
use Rattle.std.specs.List.{AllZip}
use Rattle.bern_base.specs.declared.job.Checked.{Checked}
use Rattle.bern_base.specs.declared.job.Nest.{Nest}
use Rattle.bern_base.specs.declared.letter.NeedSet.{NeedSet}
use Rattle.format_model.specs.Grids.{SameBranches}
use Rattle.format_model.specs.Trees.{Tree}
use Rattle.node_prog.specs.declared.record.Recorded.{Recorded}
use Rattle.term_model.specs.declared.plan.PlannedTerm.{PlannedTerm}
use Rattle.term_model.specs.Activity.{Entries}
use Rattle.term_model.specs.Answers.{Places}
use Rattle.record_model.specs.Records.{Records}

-- records that are right over some views are right over all that are alike but for the values at their leaves
abbrev pub RecordsOutliveValues : Type 0
RecordsOutliveValues =
    (job : Checked) (entries : Entries) (places : Places) (rank : ℕ) (nest : Nest) (sets : List NeedSet) (old new : List Tree) (planned : List PlannedTerm) (records : List (List Recorded)) →
    AllZip SameBranches old new → Records job entries places rank nest sets old planned records → Records job entries places rank nest sets new planned records
