use Rattle.std.proofs.Common.{◌≡◌, ◌↔◌, ℕ, ◌<◌, IsTrue, List, Option, Some, length, slice_get, sym, ap, ◌∙◌, subst, arith}
use Rattle.std.specs.Prelude.{IfSome}
use Rattle.std.specs.List.{All}
use Rattle.std.proofs.lemmas.List.{length-map}
use Rattle.wh_words.specs.Tuples.{TupleData, Tuple}
use Rattle.wh_words.specs.Moves.{Move}
use Rattle.wh_level.specs.Trees.{Parents}
use Rattle.wh_data.specs.AnswerData.{plains, parts_of}
use Rattle.wh_cert.specs.Demands.{tuple_at}
use Rattle.wh_cert.specs.WaysBack.{IsLed}
use Rattle.wh_cert.proofs.JudgedTrees.{stands, entry_rank, plain_ranks, edge_tested}
use Rattle.wh_cert.proofs.Rising.{plain_at}
use Rattle.wh_cert.proofs.FollowedWays.{at_place}
use Rattle.wh_cert.proofs.tree.is_tree_edge.Goals as goal

pub is_led-requires-clause-ranks : goal.is_led-requires-clause-ranks
is_led-requires-clause-ranks c =
    let n : ℕ = c.requires.ranks.0 in
    let via : c.in-Some.via.rank ≡ n =
    entry_rank n c.items-tree.result.now c.args.place (c.in-Some.from, c.in-Some.via) c.index-tree-place.result
    (subst (λ (es : Parents). All (λ e. IfSome e (λ s. s.1.rank ≡ n)) es) (sym c.items-tree.ensures) c.requires.ranks.2) (omega (arith, c.requires.within, ap length c.items-tree.ensures)) c.index-tree-place.is c.in-Some.is in
    plain_ranks n c.in-Some.via.rank c.items-vertices.result.now via (subst (λ (ts : List Tuple). All (λ t. t.rank ≡ n) (plains ts)) (sym c.items-vertices.ensures) c.requires.ranks.1)

pub returns-clause-is : goal.returns-clause-is
returns-clause-is c =
    let vs : List TupleData = plains c.args.parts.now.vertices in
    let t : TupleData = tuple_at vs c.args.place in
    let within : c.args.place < length vs = omega (arith, c.requires.within, c.requires.count, length-map c.args.parts.now.vertices (λ (u : Tuple). u.plain)) in
    let own : c.index-vertices-place.result.plain ≡ t =
    plain_at c.items-vertices.result.now c.args.place c.index-vertices-place.result (omega (arith, c.requires.within, c.requires.count, ap length c.items-vertices.ensures)) c.index-vertices-place.is
    ∙ ap (λ (ts : List Tuple). tuple_at (plains ts) c.args.place) c.items-vertices.ensures in
    let entry : slice_get c.args.parts.now.tree c.args.place ≡ Some (Some (c.in-Some.from, c.in-Some.via)) =
    ap (λ (es : Parents). slice_get es c.args.place) (sym c.items-tree.ensures)
    ∙ stands c.items-tree.result.now c.args.place c.index-tree-place.result (omega (arith, c.requires.within, ap length c.items-tree.ensures)) c.index-tree-place.is ∙ ap (λ (e : Option (ℕ × Move)). Some e) c.in-Some.is in
    edge_tested (parts_of c.args.parts.now) c.args.head c.args.place c.in-Some.from c.in-Some.via t entry (at_place vs c.args.place within) c.if-head-place.false
    ((c.requires.back.exact c.args.place c.requires.within).0 (c.if-back-place.false ∙ ap length c.items-tree.ensures))
    (subst (λ (u : TupleData). IsTrue c.is_led.result ↔ IsLed vs c.in-Some.from c.in-Some.via u) own
    (subst (λ (ts : List Tuple). IsTrue c.is_led.result ↔ IsLed (plains ts) c.in-Some.from c.in-Some.via c.index-vertices-place.result.plain) c.items-vertices.ensures c.is_led.ensures.led))
