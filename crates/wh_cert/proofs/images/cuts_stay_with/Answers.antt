use Rattle.std.proofs.Common.{ℕ, sym, ◌∙◌, subst, arith}
use Rattle.wh_words.specs.Moves.{cut_move}
use Rattle.wh_cert.specs.Listings.{StaysIn, IsRoomy}
use Rattle.wh_cert.proofs.Staying.{next_before, other_capacity}
use Rattle.wh_cert.proofs.images.cuts_stay_with.Goals as goal
use Rattle.wh_cert.proofs.images.cuts_stay_with.Goals.{else-capacities-set-via-then-capacities-set+else-not-cut_stays, else-capacities-set-via-else-capacities-set}

pub loop-set-preserved : goal.loop-set-preserved
loop-set-preserved c = elim c.else-capacities-set.branch [
  | else-capacities-set-via-then-capacities-set+else-not-cut_stays w ↦ (
    subst IsRoomy (sym w.image-is) w.cut_stays.ensures.roomy,
    next_before (λ j. StaysIn c.args.listed.now c.args.tuple.now.plain (cut_move c.args.tuple.now.plain.rank c.args.mult j)) c.loop-set.set c.loop-set.invariant.1
        (subst (λ (s : ℕ). StaysIn c.args.listed.now c.args.tuple.now.plain (cut_move c.args.tuple.now.plain.rank c.args.mult s)) w.of_bits.ensures (w.cut_stays.ensures.stay.0 w.if-not-cut_stays.false)),
  )
  | else-capacities-set-via-else-capacities-set w ↦ (
    subst IsRoomy (sym w.image-is) c.loop-set.invariant.0,
    next_before (λ j. StaysIn c.args.listed.now c.args.tuple.now.plain (cut_move c.args.tuple.now.plain.rank c.args.mult j)) c.loop-set.set c.loop-set.invariant.1
        (other_capacity c.args.listed.now c.args.tuple.now.plain c.args.mult c.loop-set.set c.requires.tuple
        (λ q. w.if-capacities-set.false (c.requires.capacities.each c.loop-set.set 0 (omega (arith, c.requires.capacities.size)) ∙ q ∙ sym c.requires.degree))),
  )
]
