use Rattle.wh_tests.proofs.levels.level_within.Goals as goal

pub returns : goal.returns
returns c = c.found.ensures c.args.root.now.plain c.args.limit c.in_ok-explored.ensures
