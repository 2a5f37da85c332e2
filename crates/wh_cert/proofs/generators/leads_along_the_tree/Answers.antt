use Rattle.std.proofs.Common.{◌≡◌, ◌↔◌, ℕ, ◌<◌, IsTrue, List, Option, Some, slice_get, Contains, rules, sym, ap, ◌∙◌, subst, arith, length}
use Rattle.std.proofs.lemmas.List.{length-map}
use Rattle.std.proofs.lemmas.Option.{slice_get_within}
use Rattle.wh_words.specs.Tuples.{TupleData, Tuple}
use Rattle.wh_words.specs.Moves.{Move}
use Rattle.wh_words.specs.Action.{act}
use Rattle.wh_data.specs.AnswerData.{plains, parts_of}
use Rattle.wh_cert.specs.Demands.{tuple_at}
use Rattle.wh_cert.proofs.Rising.{plain_at, plain_listed}
use Rattle.wh_cert.proofs.FollowedWays.{at_place}
use Rattle.wh_cert.proofs.FirstOffTree.{tree_told, not_told}
use Rattle.wh_cert.proofs.generators.leads_along_the_tree.Goals as goal

pub image_place-requires-clause-listed : goal.image_place-requires-clause-listed
image_place-requires-clause-listed c =
    plain_listed c.items-vertices.result.now c.args.from c.index-vertices-from.result (omega (arith, c.requires.within, ap length c.items-vertices.ensures)) (search rules)

pub is_of_tree-requires : goal.is_of_tree-requires
is_of_tree-requires c =
    let within = slice_get_within (plains c.items-vertices.result.now) c.in-Some.to (act c.index-vertices-from.result.plain c.args.via.now) c.in-Some.ensures.place in
    omega (arith, within, length-map c.items-vertices.result.now (λ (t : Tuple). t.plain), ap length c.items-vertices.ensures, ap length c.items.ensures, c.requires.count)

pub returns-in-Some-clause-is : goal.returns-in-Some-clause-is
returns-in-Some-clause-is c =
    let vs : List TupleData = plains c.args.parts.now.vertices in
    let t : TupleData = tuple_at vs c.args.from in
    let within : c.args.from < length vs = omega (arith, c.requires.within, length-map c.args.parts.now.vertices (λ (u : Tuple). u.plain)) in
    let own : c.index-vertices-from.result.plain ≡ t =
    plain_at c.items-vertices.result.now c.args.from c.index-vertices-from.result (omega (arith, c.requires.within, ap length c.items-vertices.ensures)) (search rules)
    ∙ ap (λ (ts : List Tuple). tuple_at (plains ts) c.args.from) c.items-vertices.ensures in
    let ends : slice_get vs c.in-Some.to ≡ Some (act t c.args.via.now) =
    ap (λ (ts : List Tuple). slice_get (plains ts) c.in-Some.to) (sym c.items-vertices.ensures) ∙ c.in-Some.ensures.place ∙ ap (λ (u : TupleData). Some (act u c.args.via.now)) own in
    tree_told (parts_of c.args.parts.now) c.args.from t c.args.via.now c.requires.vertices.sorted (at_place vs c.args.from within) c.in-Some.to c.is_of_tree.result ends
    (subst (λ (ps : List (Option (ℕ × Move))). IsTrue c.is_of_tree.result ↔ (slice_get ps c.in-Some.to ≡ Some (Some (c.args.from, c.args.via.now)))) c.items.ensures c.is_of_tree.ensures)

pub returns-in-None-clause-is : goal.returns-in-None-clause-is
returns-in-None-clause-is c =
    let vs : List TupleData = plains c.args.parts.now.vertices in
    let t : TupleData = tuple_at vs c.args.from in
    let within : c.args.from < length vs = omega (arith, c.requires.within, length-map c.args.parts.now.vertices (λ (u : Tuple). u.plain)) in
    let own : c.index-vertices-from.result.plain ≡ t =
    plain_at c.items-vertices.result.now c.args.from c.index-vertices-from.result (omega (arith, c.requires.within, ap length c.items-vertices.ensures)) (search rules)
    ∙ ap (λ (ts : List Tuple). tuple_at (plains ts) c.args.from) c.items-vertices.ensures in
    not_told (parts_of c.args.parts.now) c.args.from t c.args.via.now c.requires.vertices.sorted (at_place vs c.args.from within)
    (subst (λ (u : TupleData). ¬ (Contains vs (act u c.args.via.now))) own
    (subst (λ (ts : List Tuple). ¬ (Contains (plains ts) (act c.index-vertices-from.result.plain c.args.via.now))) c.items-vertices.ensures c.in-None.ensures.place))
