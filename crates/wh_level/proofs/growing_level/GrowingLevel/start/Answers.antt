use Rattle.std.proofs.Common.{List, [], ◌∷◌, sym, subst}
use Rattle.wh_words.specs.Tuples.{TupleData}
use Rattle.wh_level.specs.Trees.{Parents}
use Rattle.wh_level.specs.GrowingLevels.{HasGoneOver}
use Rattle.wh_level.proofs.Growth.{gone_start, first_added}
use Rattle.wh_level.proofs.growing_level.GrowingLevel.start.Goals as goal

pub returns : goal.returns
returns c =
    subst (λ (ts : List TupleData). HasGoneOver c.args.root.now.plain (record { tuples = ts; parents = c.in_ok-parents.parents.items }) 0) (sym (first_added c.new-tuples.result c.add.new.self c.args.root.now.plain c.new-tuples.ensures c.in_ok-add.ensures.added))
    (subst (λ (ps : Parents). HasGoneOver c.args.root.now.plain (record { tuples = c.args.root.now.plain ∷ []; parents = ps }) 0) (sym c.in_ok-parents.ensures.items) (gone_start c.args.root.now.plain))
