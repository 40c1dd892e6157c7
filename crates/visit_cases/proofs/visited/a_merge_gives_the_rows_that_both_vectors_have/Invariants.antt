use Rattle.visit_cases.proofs.visited.a_merge_gives_the_rows_that_both_vectors_have.Given as goal

abbrev pub ghosts-visited : goal.ghosts-visited
ghosts-visited g a = record { name = a.blank.name; parts = a.blank.parts }
