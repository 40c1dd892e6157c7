use Rattle.visit_cases.proofs.visited.a_visit_of_three_entries_reads_six_children.Given as goal

abbrev pub ghosts-reads : goal.ghosts-reads
ghosts-reads g a = record { name = a.blank.name; parts = a.blank.parts }
