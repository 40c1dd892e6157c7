use Rattle.top_cases.proofs.commands.each_write_is_given_what_is_left.Given as goal

abbrev pub ghosts-noted : goal.ghosts-noted
ghosts-noted g a = record { name = a.blank.name; parts = a.blank.parts }
