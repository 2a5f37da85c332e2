use Rattle.std.proofs.Common.{◌≡◌, ◌<◌, List, Some, length, slice_get, refl, sym, subst, arith}
use Rattle.std.proofs.lemmas.Bool.{false≢true}
use Rattle.std.proofs.lemmas.List.{length-map}
use Rattle.wh_words.specs.Tuples.{TupleData, Tuple}
use Rattle.wh_stab.specs.Presentations.{Start}
use Rattle.wh_level.specs.Trees.{Parents}
use Rattle.wh_data.specs.AnswerData.{plains, parts_of}
use Rattle.wh_cert.specs.Demands.{tuple_at}
use Rattle.wh_cert.specs.VertexWays.{NamesGenerator}
use Rattle.wh_cert.proofs.FollowedWays.{at_place}
use Rattle.wh_cert.proofs.RelatorNumbers.{tree_read, number_read, none_read}
use Rattle.wh_cert.proofs.relators.read_after.Goals as goal

pub returns-then-is_of_tree : goal.returns-then-is_of_tree
returns-then-is_of_tree c ms =
    let vs : List TupleData = plains c.args.parts.now.vertices in
    let within : c.args.from < length vs = omega (arith, c.requires.from, length-map c.args.parts.now.vertices (λ (u : Tuple). u.plain)) in
    tree_read (parts_of c.args.parts.now) c.requires.parts (tuple_at vs c.args.from) c.args.via.now ms c.args.from (at_place vs c.args.from within) c.args.to c.args.read c.args.word.now c.requires.ends c.requires.read
    (subst (λ (es : Parents). slice_get es c.args.to ≡ Some (Some (c.args.from, c.args.via.now))) c.items.ensures (c.if-is_of_tree.ensures.0 refl))

pub returns-then-names_generator : goal.returns-then-names_generator
returns-then-names_generator c ms =
    let vs : List TupleData = plains c.args.parts.now.vertices in
    let within : c.args.from < length vs = omega (arith, c.requires.from, length-map c.args.parts.now.vertices (λ (u : Tuple). u.plain)) in
    number_read (parts_of c.args.parts.now) c.requires.parts (tuple_at vs c.args.from) c.args.via.now ms c.args.from (at_place vs c.args.from within) c.args.to c.requires.ends
    (λ e. false≢true (c.if-is_of_tree.ensures.1 (subst (λ (es : Parents). slice_get es c.args.to ≡ Some (Some (c.args.from, c.args.via.now))) (sym c.items.ensures) e))) c.args.read c.args.word.now
    (subst (λ (gs : List Start). NamesGenerator gs (c.args.from, c.args.via.now) c.args.word.now c.args.read) c.items-2.ensures (c.if-names_generator.ensures.0 refl))

pub returns : goal.returns
returns c ms =
    let vs : List TupleData = plains c.args.parts.now.vertices in
    let within : c.args.from < length vs = omega (arith, c.requires.from, length-map c.args.parts.now.vertices (λ (u : Tuple). u.plain)) in
    none_read (parts_of c.args.parts.now) c.requires.parts (tuple_at vs c.args.from) c.args.via.now ms c.args.from (at_place vs c.args.from within) c.args.to c.requires.ends
    (λ e. false≢true (c.if-is_of_tree.ensures.1 (subst (λ (es : Parents). slice_get es c.args.to ≡ Some (Some (c.args.from, c.args.via.now))) (sym c.items.ensures) e))) c.args.read c.args.word.now
    (λ names. false≢true (c.if-names_generator.ensures.1 (subst (λ (gs : List Start). NamesGenerator gs (c.args.from, c.args.via.now) c.args.word.now c.args.read) (sym c.items-2.ensures) names)))
