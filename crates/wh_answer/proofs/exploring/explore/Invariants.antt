use Rattle.wh_answer.proofs.exploring.explore.Given as goal

abbrev pub ghosts-explore_over : goal.ghosts-explore_over
ghosts-explore_over a = record { name = a.blank.name; parts = a.blank.parts }
