use Rattle.std.proofs.Common.{◌∙◌, ◌<◌, ◌≤◌, Bool, [], List, length, map, sym, ap, subst, arith}
use Rattle.wh_words.specs.Tuples.{TupleData, Tuple, IsTuple}
use Rattle.wh_words.specs.CapacityTraces.{IsCapacityTrace}
use Rattle.std.specs.Bool.{MatchBool}
use Rattle.wh_words.specs.Limits.{most_relators}
use Rattle.wh_words.specs.Moves.{Move}
use Rattle.wh_stab.specs.declared.stab.Stab.{Stab}
use Rattle.wh_stab.specs.declared.stab.Relator.{Relator}
use Rattle.wh_stab.specs.Presentations.{Start, AreGenerators}
use Rattle.wh_stab.specs.Numberings.{presentation}
use Rattle.wh_stab.specs.Relators.{relator_of, AreRelators, relator_count}
use Rattle.wh_stab.proofs.OwnStabilisers.{trace_root, stabilised}
use Rattle.wh_stab.proofs.stabilising.presented.Goals as goal

pub push_relators-requires-clause-rank : goal.push_relators-requires-clause-rank
push_relators-requires-clause-rank c =
    let end = trace_root c.args.tuple.now.plain c.args.trace.now.end.plain c.args.trace.now.moves c.requires.tuple c.requires.rank c.requires.trace in
    omega (arith, c.requires.rank, end.1, ap (λ (t : TupleData). t.rank) c.requires.root)

pub push_relators-requires-clause-root : goal.push_relators-requires-clause-root
push_relators-requires-clause-root c =
    subst IsTuple (sym c.requires.root) (trace_root c.args.tuple.now.plain c.args.trace.now.end.plain c.args.trace.now.moves c.requires.tuple c.requires.rank c.requires.trace).0

pub push_relators-requires-clause-few : goal.push_relators-requires-clause-few
push_relators-requires-clause-few c = omega (arith, c.requires.few, c.in_ok-push_generators.ensures.few, ap length c.deref.ensures.value)

pub returns : goal.returns
returns c =
    let l = c.args.level.now in
    let stab : Stab = record { trace = c.of.result; vertices = c.of-2.result; tree = record { parent = c.of-3.result }; generators = c.of-4.result; relators = c.of-5.result } in
    let few =
    subst (λ (b : Bool). MatchBool b (AreRelators (presentation [] l c.deref.result.now) (map relator_of c.push_relators.new.relators.items) × (relator_count l.tuples ≤ most_relators)) (most_relators < relator_count l.tuples)) c.if-not-few.false
    c.in_ok-few.ensures in (
      stabilised c.args.tuple.now.plain l stab c.requires.tuple c.requires.rank c.tuples.ensures.closed
          (subst (IsCapacityTrace c.args.tuple.now.plain c.of.result) (sym c.requires.root)
          (subst (λ (ms : List Move). IsCapacityTrace c.args.tuple.now.plain ms c.args.trace.now.end.plain) (sym (c.of.ensures ∙ (c.in_ok-moves.ensures.items ∙ c.items.ensures))) c.requires.trace))
          (ap (map (λ (t : Tuple). t.plain)) c.of-2.ensures ∙ (c.in_ok-vertices.ensures ∙ c.tuples.ensures.tuples))
          (c.of-3.ensures ∙ (c.in_ok-parents.ensures.items ∙ c.parents.ensures.parents))
          (subst (λ (gs : List Start). AreGenerators (presentation [] l gs)) (sym c.of-4.ensures) c.in_ok-push_generators.ensures.generators)
          (subst (λ (gs : List Start). AreRelators (presentation [] l gs) (map relator_of c.of-5.result)) (c.deref.ensures.value ∙ sym c.of-4.ensures)
          (subst (λ (rs : List Relator). AreRelators (presentation [] l c.deref.result.now) (map relator_of rs)) (sym c.of-5.ensures) few.0)),
      few.1,
    )
