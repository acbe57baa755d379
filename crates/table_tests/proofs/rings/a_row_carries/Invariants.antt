use Rattle.table_tests.proofs.rings.a_row_carries.Given as goal

abbrev pub ghosts-carried : goal.ghosts-carried
ghosts-carried a = record { name = a.blank.name; parts = a.blank.parts }
