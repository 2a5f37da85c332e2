use Rattle.std.proofs.Common.{rules, refl, sym, arith}
use Rattle.std.proofs.lemmas.Bool.{false≢true}
use Rattle.std.proofs.lemmas.List.{length-map}
use Rattle.std.proofs.lemmas.List.Elements.{All-contains}
use Rattle.std.proofs.lemmas.Option.{slice_get_within}
use Rattle.wh_words.specs.Tuples.{Tuple}
use Rattle.wh_words.specs.Moves.{Move}
use Rattle.wh_data.specs.AnswerData.{plains}
use Rattle.wh_cert.specs.VertexWays.{AreVertices}
use Rattle.wh_cert.proofs.FollowedWays.{way_begins, way_stops, way_goes_on, way_is_followed}
use Rattle.wh_cert.proofs.ways.follow.Goals as goal

pub loop-m-init : goal.loop-m-init
loop-m-init c = (
  c.requires.roomy,
  way_begins (plains c.args.vertices.now) c.args.at c.args.moves.now c.push.new.self.items (omega (arith, c.requires.within, length-map c.args.vertices.now (λ (t : Tuple). t.plain))) (search rules),
)

pub next_place-requires-clause-within : goal.next_place-requires-clause-within
next_place-requires-clause-within c =
    omega (arith, slice_get_within (plains c.args.vertices.now) c.loop-m.here _ c.loop-m.invariant.1.stands, length-map c.args.vertices.now (λ (t : Tuple). t.plain))

pub next_place-requires-clause-roomy : goal.next_place-requires-clause-roomy
next_place-requires-clause-roomy c = c.loop-m.invariant.0

pub returns-in_default-clause-steps : goal.returns-in_default-clause-steps
returns-in_default-clause-steps c = (
  λ f. absurd (false≢true f),
  λ s. absurd (way_stops (plains c.args.vertices.now) c.args.at c.args.moves.now c.loop-m.m-index c.loop-m.here c.loop-m.stops.items c.m-item.result (search rules) (search rules) c.loop-m.invariant.1 c.in_default.ensures.place s),
)

pub loop-m-preserved : goal.loop-m-preserved
loop-m-preserved c = (
  c.next_place.ensures.roomy,
  way_goes_on (plains c.args.vertices.now) c.args.at c.args.moves.now c.loop-m.m-index c.loop-m.here c.loop-m.stops.items c.m-item.result (search rules) (search rules) c.loop-m.invariant.1 c.in-Some.next c.push-in-loop-m.new.self.items c.in-Some.ensures.place (search rules),
)

pub returns-clause-steps : goal.returns-clause-steps
returns-clause-steps c = (
  λ t. (way_is_followed (plains c.args.vertices.now) c.args.at c.args.moves.now c.loop-m.m-index c.loop-m.here c.loop-m.stops.items (search rules) c.loop-m.invariant.1).0,
  λ s. refl,
)

pub returns-clause-stops : goal.returns-clause-stops
returns-clause-stops c = λ t. (way_is_followed (plains c.args.vertices.now) c.args.at c.args.moves.now c.loop-m.m-index c.loop-m.here c.loop-m.stops.items (search rules) c.loop-m.invariant.1).1

pub returns-clause-roomy : goal.returns-clause-roomy
returns-clause-roomy c = c.loop-m.invariant.0

pub next_place-requires-clause-vertices : goal.next_place-requires-clause-vertices
next_place-requires-clause-vertices c =
    All-contains (λ (m : Move). AreVertices m.rank (plains c.args.vertices.now)) c.args.moves.now c.m-item.result c.requires.vertices (c.loop-m.m-index, omega arith, sym c.m-item.is)
