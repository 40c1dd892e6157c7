use Rattle.store_cases.proofs.stored.reads_back.Given as goal

abbrev pub ghosts-reads_as : goal.ghosts-reads_as
ghosts-reads_as a = record { name = a.blank.name; parts = a.blank.parts }
