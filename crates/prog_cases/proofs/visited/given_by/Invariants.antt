use Rattle.prog_cases.proofs.visited.given_by.Given as goal

abbrev pub ghosts-visit_both : goal.ghosts-visit_both
ghosts-visit_both a = record { name = a.blank.name; parts = a.blank.parts }
