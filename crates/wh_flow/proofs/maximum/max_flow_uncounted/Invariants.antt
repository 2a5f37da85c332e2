use Rattle.wh_flow.proofs.maximum.max_flow_uncounted.Given as goal

abbrev pub ghosts-max_flow_over : goal.ghosts-max_flow_over
ghosts-max_flow_over a = record { name = a.blank.name; parts = a.blank.parts }
