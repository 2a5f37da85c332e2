use Rattle.std.proofs.Common.{◌≡◌, ℕ, ◌*◌, ◌<◌, length, get_or}
use Rattle.wh_composites.proofs.signed_perm.generators.Given as goal

abbrev pub invariant-loop-g : goal.invariant-loop-g
invariant-loop-g l = record {
  letters : (k : ℕ) → k < l.g → get_or l.letters k 0 ≡ 2 * k;
  count : length l.letters ≡ 26;
}
