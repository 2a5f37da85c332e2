use Rattle.wh_tests.proofs.levels.explored.Given as goal

abbrev pub ghosts-explored_over : goal.ghosts-explored_over
ghosts-explored_over a = record { name = a.blank.name; parts = a.blank.parts }
