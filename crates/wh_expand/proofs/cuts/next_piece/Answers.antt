use Rattle.std.proofs.Common.{rules, ◌≡◌, ◌≢◌, ◌+◌, ◌-◌, ℕ, List, length, get_or, take, drop, subst, arith}
use Rattle.std.proofs.lemmas.List.{length-drop, length-take-le}
use Rattle.wh_expand.specs.Pieces.{LacksBetween}
use Rattle.wh_expand.proofs.Pieces.{lacks_then, lacks_piece}
use Rattle.wh_expand.proofs.cuts.next_piece.Goals as goal

pub loop-set-preserved : goal.loop-set-preserved
loop-set-preserved c =
    let counts : List ℕ = c.args.capacities.now in
    let n : ℕ = c.args.degree in
    let s : ℕ = c.loop-set.set in
    let size : s + 16 - s ≡ 16 = omega arith in
    let here : LacksBetween (take (s + 16 - s) (drop s counts)) n 0 (length (take (s + 16 - s) (drop s counts))) = c.has_degree.ensures (search rules) in
    let whole : length (take (s + 16 - s) (drop s counts)) ≡ s + 16 - s = length-take-le (s + 16 - s) (drop s counts) (omega (arith, length-drop s counts, c.requires.within)) in
    record {
      order = omega arith;
      within = omega arith;
      lacks = lacks_then counts n c.args.start s (s + 16) c.loop-set.invariant.lacks
          (lacks_piece counts n s 16 (λ k h l. subst (λ (i : ℕ). get_or (take i (drop s counts)) k 0 ≢ n) size (here k h (omega (arith, l, whole, size)))));
    }
