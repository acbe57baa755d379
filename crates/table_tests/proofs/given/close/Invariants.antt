use Rattle.table_tests.proofs.given.close.Given as goal

abbrev pub ghosts-close_by : goal.ghosts-close_by
ghosts-close_by g a = record { name = a.blank.name; parts = a.blank.parts }
