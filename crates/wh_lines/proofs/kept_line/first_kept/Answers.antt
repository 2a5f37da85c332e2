use Rattle.std.proofs.Common.{◌≡◌, ◌+◌, ◌<◌, length, take, ap, arith, rules, Ok}
use Rattle.std.proofs.lemmas.List.{length-take, length-drop}
use Rattle.std.proofs.lemmas.Result.{err_from_is_err_and}
use Rattle.wh_lines.specs.Lines.{lines}
use Rattle.wh_lines.specs.KeptLines.{rest}
use Rattle.wh_lines.specs.Scans.{before, checked_fields, first_of}
use Rattle.wh_lines.proofs.KeptSteps.{kept_more, kept_found, kept_fail}
use Rattle.wh_lines.proofs.kept_line.first_kept.Goals as goal

pub returns-in_err-fields-clause-first : goal.returns-in_err-fields-clause-first
returns-in_err-fields-clause-first c =
    let p = err_from_is_err_and c.from_residual.result c.from_residual.ensures.1 in
    let n : c.before-count.result ≡ before 10 c.lines.bytes.now = search rules in
    rw (p.1, p.2) (kept_fail c.lines.line c.lines.bytes.now c.before-count.result c.in_err-fields.field-0.0 (first_of (rest c.args.line (lines c.args.bytes.now))) (search rules) n c.in_err-fields.ensures.fields c.lines.invariant.1)

pub kept_of-requires-clause-fits : goal.kept_of-requires-clause-fits
kept_of-requires-clause-fits c = omega (arith, c.in_ok-fields.ensures.within, length-take c.before-count.result c.lines.bytes.now, c.lines.invariant.0)

pub returns-then-not-is_empty-clause-first : goal.returns-then-not-is_empty-clause-first
returns-then-not-is_empty-clause-first c =
    let n : c.before-count.result ≡ before 10 c.lines.bytes.now = search rules in
    let read : checked_fields c.lines.line (take c.before-count.result c.lines.bytes.now) ≡ Ok c.in_ok-fields.fields.items = search rules in
    rw c.after-bytes.ensures
    (kept_found c.lines.line c.lines.bytes.now c.before-count.result c.in_ok-fields.fields.items c.kept_of.result (first_of (rest c.args.line (lines c.args.bytes.now))) (search rules) n read c.kept_of.ensures c.lines.invariant.1)

pub lines-preserved : goal.lines-preserved
lines-preserved c =
    let n : c.before-count.result ≡ before 10 c.lines.bytes.now = search rules in
    let read : checked_fields c.lines.line (take c.before-count.result c.lines.bytes.now) ≡ Ok c.in_ok-fields.fields.items = search rules in
    let empty : length c.in_ok-fields.fields.items ≡ 0 = search rules in
    let some : 0 < length c.lines.bytes.now = search rules in (
      omega (arith, ap length c.after-bytes.ensures, length-drop (c.before-count.result + 1) c.lines.bytes.now, c.lines.invariant.0, some),
      rw c.after-bytes.ensures (kept_more c.lines.line c.lines.bytes.now c.before-count.result c.in_ok-fields.fields.items (first_of (rest c.args.line (lines c.args.bytes.now))) some n read empty c.lines.invariant.1),
    )
