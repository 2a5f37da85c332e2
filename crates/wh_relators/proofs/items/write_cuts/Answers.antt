use Rattle.std.proofs.Common.{◌≡◌, ◌++◌, ◌*◌, ℕ, map, take, subst, ◌∙◌, arith}
use Rattle.std.specs.List.{filter}
use Rattle.wh_relators.specs.Cuts.{parts, sets}
use Rattle.wh_relators.proofs.ItemLists.{one, cuts_before, cuts_more, all_cuts}
use Rattle.wh_relators.proofs.items.write_cuts.Goals as goal

pub loop-index-preserved : goal.loop-index-preserved
loop-index-preserved c = record {
  written = cuts_more c.args.rank c.loop-index.index (take c.loop-index.count c.loop-index.items) (take c.write_cuts_with-count.result c.write_cuts_with-count.new.items) c.loop-index.invariant.written
      (subst (λ (m : ℕ). take c.write_cuts_with-count.result c.write_cuts_with-count.new.items ≡ take c.loop-index.count c.loop-index.items ++ map (one m) (filter (parts m) (sets c.args.rank))) c.of_index.ensures c.write_cuts_with-count.ensures.written);
  end = omega (arith, c.write_cuts_with-count.ensures.end, c.loop-index.invariant.end);
  same_length = c.write_cuts_with-count.ensures.same_length ∙ c.loop-index.invariant.same_length;
}

pub returns : goal.returns
returns c =
    let end : c.loop-index.index ≡ 2 * c.args.rank = omega (arith, c.loop-index-test.false, c.get-index-end.ensures.same) in
    record {
      written = all_cuts c.args.rank (take c.loop-index.count c.loop-index.items) (subst (λ (k : ℕ). take c.loop-index.count c.loop-index.items ≡ cuts_before c.args.rank k) end c.loop-index.invariant.written);
      end = omega (arith, c.loop-index.invariant.end, end, c.requires.few);
      same_length = c.loop-index.invariant.same_length;
    }
