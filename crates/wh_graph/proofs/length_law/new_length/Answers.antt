use Rattle.std.proofs.Common.{arith}
use Rattle.wh_words.specs.LetterSets.{in_set}
use Rattle.wh_graph.proofs.Lengths.{cut_changes, cap_few}
use Rattle.wh_graph.proofs.length_law.new_length.Goals as goal

pub overflow_add-result : goal.overflow_add-result
overflow_add-result c = omega (arith, c.length-in-Cut.ensures.length, c.length-in-Cut.ensures.roomed.tuple.short, c.capacity.ensures, cap_few (in_set c.in-Cut.set) c.args.tuple.now.plain)

pub overflow_sub-result : goal.overflow_sub-result
overflow_sub-result c =
    omega (
      arith,
      c.length-in-Cut.ensures.length,
      c.capacity.ensures,
      c.degree.ensures,
      cut_changes c.args.tuple.now.plain c.args.m.now c.in-Cut.mult c.in-Cut.set c.length-in-Cut.ensures.roomed.tuple c.in-Cut.ensures.valid c.requires c.in-Cut.ensures.kind,
    )

pub returns-in-Cut : goal.returns-in-Cut
returns-in-Cut c =
    omega (
      arith,
      c.length-in-Cut.ensures.length,
      c.capacity.ensures,
      c.degree.ensures,
      cut_changes c.args.tuple.now.plain c.args.m.now c.in-Cut.mult c.in-Cut.set c.length-in-Cut.ensures.roomed.tuple c.in-Cut.ensures.valid c.requires c.in-Cut.ensures.kind,
    )
