use Rattle.base_cases.proofs.base.a_counter_takes_no_bytes.Given as goal

abbrev pub ghosts-tick_twice : goal.ghosts-tick_twice
ghosts-tick_twice g a = record { name = a.blank.name; parts = a.blank.parts }
