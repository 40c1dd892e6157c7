use Rattle.view_cases.proofs.cells.sets.Given as goal

abbrev pub ghosts-reads_as : goal.ghosts-reads_as
ghosts-reads_as a = record { name = a.blank.name; parts = a.blank.parts }

abbrev pub ghosts-reads_as-2 : goal.ghosts-reads_as-2
ghosts-reads_as-2 a = record { name = a.blank.name; parts = a.blank.parts }
