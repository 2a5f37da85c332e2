use Rattle.wh_tests.proofs.levels.row.Given as goal

abbrev pub ghosts-row_over : goal.ghosts-row_over
ghosts-row_over a = record { name = a.blank.name; parts = a.blank.parts }
