use Rattle.std.proofs.Common.{◌≡◌, ◌∙◌, ◌++◌, ◌∷◌, [], true, false, ap, rules, map, Ok, List}
use Rattle.std.proofs.lemmas.List.{map-append}
use Rattle.std.proofs.lemmas.Result.{err_from_is_err_and}
use Rattle.wh_words.specs.Tuples.{Tuple, TupleData}
use Rattle.wh_lines.specs.declared.reader.Next.TheVariants as nexts
use Rattle.wh_lines.specs.LineReadings.{next}
use Rattle.wh_text.specs.Problems.{tuple_line, last_moves, has_moves, stated}
use Rattle.wh_text.proofs.StatedLines.{fewer_left, behind_tuples, tuples_more, tuples_fail, moves_last, moves_fail, lines_bad, lines_end}
use Rattle.wh_text.proofs.problem_reading.read_stated.Goals as goal

pub returns-in_err-next : goal.returns-in_err-next
returns-in_err-next c =
    let p = err_from_is_err_and c.from_residual.result c.from_residual.ensures.1 in
    rw (p.1, p.2) (lines_bad c.args.takes_moves c.args.rank c.lines.reader c.in_err-next.field-0.0 (map (λ (t : Tuple). t.plain) c.lines.tuples.items) (stated c.args.takes_moves c.args.rank c.args.reader.now.rest) c.in_err-next.ensures c.lines.invariant)

pub returns-in_err-moves-in-Line : goal.returns-in_err-moves-in-Line
returns-in_err-moves-in-Line c =
    let p = err_from_is_err_and c.from_residual-in_err-moves-in-Line.result c.from_residual-in_err-moves-in-Line.ensures.1 in
    let line : next c.lines.reader ≡ Ok (nexts.Line c.in-Line.kept, c.next_line.new.self) = search rules in
    let is : has_moves c.args.takes_moves c.in-Line.kept ≡ true = search rules in
    rw (p.1, p.2) (moves_fail c.args.takes_moves c.args.rank c.lines.reader c.in-Line.kept c.next_line.new.self c.in_err-moves-in-Line.field-0.0 (map (λ (t : Tuple). t.plain) c.lines.tuples.items) (stated c.args.takes_moves c.args.rank c.args.reader.now.rest) line is c.in_err-moves-in-Line.ensures c.lines.invariant)

pub returns-then-has_moves : goal.returns-then-has_moves
returns-then-has_moves c =
    let line : next c.lines.reader ≡ Ok (nexts.Line c.in-Line.kept, c.next_line.new.self) = search rules in
    let is : has_moves c.args.takes_moves c.in-Line.kept ≡ true = search rules in
    let told : last_moves c.args.rank c.in-Line.kept c.next_line.new.self.rest ≡ Ok c.in_ok-moves-in-Line.moves = search rules in
    moves_last c.args.takes_moves c.args.rank c.lines.reader c.in-Line.kept c.next_line.new.self c.in_ok-moves-in-Line.moves (map (λ (t : Tuple). t.plain) c.lines.tuples.items) (stated c.args.takes_moves c.args.rank c.args.reader.now.rest) line is told c.lines.invariant

pub returns-in_err-tuple-in-Line : goal.returns-in_err-tuple-in-Line
returns-in_err-tuple-in-Line c =
    let p = err_from_is_err_and c.from_residual-in_err-tuple-in-Line.result c.from_residual-in_err-tuple-in-Line.ensures.1 in
    let line : next c.lines.reader ≡ Ok (nexts.Line c.in-Line.kept, c.next_line.new.self) = search rules in
    let other : has_moves c.args.takes_moves c.in-Line.kept ≡ false = search rules in
    rw (p.1, p.2) (tuples_fail c.args.takes_moves c.args.rank c.lines.reader c.in-Line.kept c.next_line.new.self c.in_err-tuple-in-Line.field-0.0 (map (λ (t : Tuple). t.plain) c.lines.tuples.items) (stated c.args.takes_moves c.args.rank c.args.reader.now.rest) line other c.in_err-tuple-in-Line.ensures c.lines.invariant)

pub lines-smaller : goal.lines-smaller
lines-smaller c =
    let line : next c.lines.reader ≡ Ok (nexts.Line c.in-Line.kept, c.next_line.new.self) = search rules in
    fewer_left c.lines.reader c.in-Line.kept c.next_line.new.self line

pub lines-preserved : goal.lines-preserved
lines-preserved c =
    let line : next c.lines.reader ≡ Ok (nexts.Line c.in-Line.kept, c.next_line.new.self) = search rules in
    let other : has_moves c.args.takes_moves c.in-Line.kept ≡ false = search rules in
    let told : tuple_line c.args.rank c.in-Line.kept ≡ Ok c.in_ok-tuple-in-Line.tuple.plain = search rules in
    let plains : map (λ (t : Tuple). t.plain) c.push.new.self.items ≡ map (λ (t : Tuple). t.plain) c.lines.tuples.items ++ c.in_ok-tuple-in-Line.tuple.plain ∷ [] =
    ap (map (λ (t : Tuple). t.plain)) c.in_ok-push-in-Line.ensures.items ∙ map-append (λ (t : Tuple). t.plain) c.lines.tuples.items (c.in_ok-tuple-in-Line.tuple ∷ []) in
    ap (λ (us : List TupleData). behind_tuples us (stated c.args.takes_moves c.args.rank c.next_line.new.self.rest)) plains
    ∙ tuples_more c.args.takes_moves c.args.rank c.lines.reader c.in-Line.kept c.next_line.new.self c.in_ok-tuple-in-Line.tuple.plain (map (λ (t : Tuple). t.plain) c.lines.tuples.items) (stated c.args.takes_moves c.args.rank c.args.reader.now.rest) line other told c.lines.invariant

pub returns-in-End : goal.returns-in-End
returns-in-End c =
    let ended : next c.lines.reader ≡ Ok (nexts.End c.in-End.place, c.next_line.new.self) = search rules in
    lines_end c.args.takes_moves c.args.rank c.lines.reader c.in-End.place c.next_line.new.self (map (λ (t : Tuple). t.plain) c.lines.tuples.items) (stated c.args.takes_moves c.args.rank c.args.reader.now.rest) ended c.lines.invariant
