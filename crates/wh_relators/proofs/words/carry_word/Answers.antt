use Rattle.std.proofs.Common.{◌++◌, ◌∷◌, [], ap, ◌∙◌}
use Rattle.wh_words.specs.Moves.{Move}
use Rattle.wh_relators.proofs.WordLists.{carry_more}
use Rattle.wh_relators.proofs.words.carry_word.Goals as goal

pub returns : goal.returns
returns c =
    carry_more c.args.rank c.args.a c.args.b c.generator.result c.generator-2.result c.carry_generator.result c.new-word.result.items c.push_exchange_of.new.word.items c.push.new.self.items
    c.new-word.ensures.items c.generator.ensures.value c.generator-2.ensures.value c.carry_generator.ensures c.in_ok-push_exchange_of.ensures
    (c.in_ok-push.ensures.items ∙ ap (λ (m : Move). c.push_exchange_of.new.word.items ++ m ∷ []) c.invert.ensures)
