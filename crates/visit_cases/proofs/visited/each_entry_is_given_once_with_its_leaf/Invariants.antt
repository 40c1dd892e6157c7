use Rattle.visit_cases.proofs.visited.each_entry_is_given_once_with_its_leaf.Given as goal

abbrev pub ghosts-visited : goal.ghosts-visited
ghosts-visited g a = record { name = a.blank.name; parts = a.blank.parts }
