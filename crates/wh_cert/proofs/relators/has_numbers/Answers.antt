use Rattle.std.proofs.Common.{◌≡◌, ℕ, ◌+◌, ◌<◌, List, None, Some, length, get_or, drop, refl, ap, ◌∙◌, subst, arith}
use Rattle.std.proofs.lemmas.Bool.{false≢true}
use Rattle.wh_words.specs.Tuples.{TupleData}
use Rattle.wh_words.specs.Moves.{Move}
use Rattle.wh_data.specs.AnswerData.{plains, parts_of}
use Rattle.wh_cert.specs.Demands.{tuple_at}
use Rattle.wh_cert.specs.VertexWays.{ReadsOn}
use Rattle.wh_cert.proofs.Rising.{numbers_tested}
use Rattle.wh_cert.proofs.RelatorNumbers.{reading_begins, reading_goes_on, reading_stops, all_read, stop_at, stop_leads}
use Rattle.wh_cert.proofs.relators.has_numbers.Goals as goal

pub loop-k-init : goal.loop-k-init
loop-k-init c = reading_begins (parts_of c.args.parts.now) c.args.relator.now.at c.args.relator.now.moves c.args.relator.now.word

pub read_after-requires-clause-ends : goal.read_after-requires-clause-ends
read_after-requires-clause-ends c =
    let ms : List Move = c.args.relator.now.moves in
    let m : Move = c.index-moves-k.result in
    let item : m ≡ get_or ms c.loop-k.k m = c.index-moves-k.is ∙ ap (λ (l : List Move). get_or l c.loop-k.k m) c.items-moves.ensures in
    let within : c.loop-k.k < length ms = omega (arith, c.loop-k-test.true, ap length c.items-moves.ensures) in
    stop_leads (plains c.args.parts.now.vertices) c.args.relator.now.at ms c.args.stops.now c.loop-k.k c.requires.stops within m item

pub returns-in_default : goal.returns-in_default
returns-in_default c =
    let ms : List Move = c.args.relator.now.moves in
    let m : Move = c.index-moves-k.result in
    let item : m ≡ get_or ms c.loop-k.k m = c.index-moves-k.is ∙ ap (λ (l : List Move). get_or l c.loop-k.k m) c.items-moves.ensures in
    let within : c.loop-k.k < length ms = omega (arith, c.loop-k-test.true, ap length c.items-moves.ensures) in
    let t : TupleData = tuple_at (plains c.args.parts.now.vertices) (get_or c.args.stops.now c.loop-k.k 0) in
    let reads : ReadsOn (parts_of c.args.parts.now) c.args.relator.now.word c.loop-k.read t m (drop (c.loop-k.k + 1) ms) None =
    subst (λ (w : List ℕ). ReadsOn (parts_of c.args.parts.now) w c.loop-k.read t m (drop (c.loop-k.k + 1) ms) None) c.items-word.ensures (c.in_default.ensures (drop (c.loop-k.k + 1) ms)) in (
      λ f. absurd (false≢true f),
      λ h. absurd (reading_stops (parts_of c.args.parts.now) c.args.relator.now.at ms c.args.relator.now.word c.loop-k.k c.loop-k.read m within item c.loop-k.invariant t
          (stop_at (plains c.args.parts.now.vertices) c.args.relator.now.at ms c.args.stops.now c.loop-k.k c.requires.stops within) reads h),
    )

pub loop-k-preserved : goal.loop-k-preserved
loop-k-preserved c =
    let ms : List Move = c.args.relator.now.moves in
    let m : Move = c.index-moves-k.result in
    let item : m ≡ get_or ms c.loop-k.k m = c.index-moves-k.is ∙ ap (λ (l : List Move). get_or l c.loop-k.k m) c.items-moves.ensures in
    let within : c.loop-k.k < length ms = omega (arith, c.loop-k-test.true, ap length c.items-moves.ensures) in
    let t : TupleData = tuple_at (plains c.args.parts.now.vertices) (get_or c.args.stops.now c.loop-k.k 0) in
    let reads : ReadsOn (parts_of c.args.parts.now) c.args.relator.now.word c.loop-k.read t m (drop (c.loop-k.k + 1) ms) (Some c.in-Some.next) =
    subst (λ (w : List ℕ). ReadsOn (parts_of c.args.parts.now) w c.loop-k.read t m (drop (c.loop-k.k + 1) ms) (Some c.in-Some.next)) c.items-word.ensures (c.in-Some.ensures (drop (c.loop-k.k + 1) ms)) in
    reading_goes_on (parts_of c.args.parts.now) c.args.relator.now.at ms c.args.relator.now.word c.loop-k.k c.loop-k.read m within item c.loop-k.invariant t c.in-Some.next
    (stop_at (plains c.args.parts.now.vertices) c.args.relator.now.at ms c.args.stops.now c.loop-k.k c.requires.stops within) reads

pub returns : goal.returns
returns c =
    all_read (parts_of c.args.parts.now) c.args.relator.now.at c.args.relator.now.moves c.args.relator.now.word c.loop-k.k c.loop-k.read (omega (arith, c.loop-k-test.false, ap length c.items-moves.ensures))
    (numbers_tested c.loop-k.read (length c.items-word.result.now) c.loop-k.read (length c.args.relator.now.word) refl (ap length c.items-word.ensures)) c.loop-k.invariant
