use Rattle.table_tests.proofs.rings.rows_are_added.Given as goal

abbrev pub ghosts-rowed : goal.ghosts-rowed
ghosts-rowed a = record { name = a.blank.name; parts = a.blank.parts }
