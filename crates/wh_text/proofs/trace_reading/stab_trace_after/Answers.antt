use Rattle.std.proofs.lemmas.Result.{err_from_is_err_and}
use Rattle.wh_text.proofs.FirstTraces.{trace_fails}
use Rattle.wh_text.proofs.trace_reading.stab_trace_after.Goals as goal

pub returns-in_err-kept : goal.returns-in_err-kept
returns-in_err-kept c =
    let p = err_from_is_err_and c.from_residual.result c.from_residual.ensures.1 in
    rw (p.1, p.2) (trace_fails c.args.rank c.args.reader.now c.in_err-kept.field-0.0 c.in_err-kept.ensures)
