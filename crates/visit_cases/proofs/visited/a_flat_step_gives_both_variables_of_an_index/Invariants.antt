use Rattle.visit_cases.proofs.visited.a_flat_step_gives_both_variables_of_an_index.Given as goal

abbrev pub ghosts-visited : goal.ghosts-visited
ghosts-visited g a = record { name = a.blank.name; parts = a.blank.parts }
