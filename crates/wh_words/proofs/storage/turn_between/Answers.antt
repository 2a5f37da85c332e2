use Rattle.std.proofs.Common.{arith}
use Rattle.wh_words.proofs.Storing.{turned_between}
use Rattle.wh_words.proofs.storage.turn_between.Goals as goal

pub returns-clause-turned : goal.returns-clause-turned
returns-clause-turned c = turned_between c.args.places.now c.turn.new.word _ c.args.start c.args.end c.requires.order c.requires.within c.turn.ensures

pub returns-clause-same_length : goal.returns-clause-same_length
returns-clause-same_length c = grind (arith, c.turn.ensures)
