use Rattle.std.proofs.Common.{ℕ, ◌+◌, subst, arith}
use Rattle.wh_words.specs.Moves.Kind.{cut}
use Rattle.wh_expand.specs.FirstLevelMoves.{AreLevelMovesBefore}
use Rattle.wh_expand.proofs.FirstMoves.{skip_lacking}
use Rattle.wh_expand.proofs.cuts.push_run.Goals as goal

pub loop-set-init : goal.loop-set-init
loop-set-init c = record {
  within = c.next_set-set.ensures.within;
  found = c.next_set-set.ensures.found;
  before = skip_lacking c.args.tuple.now.plain c.args.moves.now.items c.args.mult c.args.start c.next_set-set.result c.args.capacities.now c.args.degree
      c.requires.tuple c.requires.capacities c.requires.degree c.next_set-set.ensures.order (omega (arith, c.next_set-set.ensures.within, c.requires.within)) c.next_set-set.ensures.lacks c.requires.before;
}

pub loop-set-preserved : goal.loop-set-preserved
loop-set-preserved c = record {
  within = c.next_set-set-in-loop-set.ensures.within;
  found = c.next_set-set-in-loop-set.ensures.found;
  before = skip_lacking c.args.tuple.now.plain c.push_cut.new.moves.items c.args.mult (c.loop-set.set + 1) c.next_set-set-in-loop-set.result c.args.capacities.now c.args.degree
      c.requires.tuple c.requires.capacities c.requires.degree c.next_set-set-in-loop-set.ensures.order (omega (arith, c.next_set-set-in-loop-set.ensures.within, c.requires.within)) c.next_set-set-in-loop-set.ensures.lacks
      (subst (λ (s : ℕ). AreLevelMovesBefore c.args.tuple.now.plain (cut c.args.mult (s + 1)) c.push_cut.new.moves.items) c.of_bits.ensures c.in_ok-push_cut.ensures);
}
