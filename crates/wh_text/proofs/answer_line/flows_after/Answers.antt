use Rattle.std.proofs.Common.{◌≡◌, arith, rules, Ok}
use Rattle.std.proofs.lemmas.Result.{err_from_is_err_and}
use Rattle.wh_lines.specs.LineReadings.{times}
use Rattle.wh_text.specs.Certificates.{flow_after}
use Rattle.wh_lines.proofs.Times.{times_more, times_fail, times_start, times_end}
use Rattle.wh_text.proofs.answer_line.flows_after.Goals as goal

pub loop-init : goal.loop-init
loop-init c = times_start (flow_after c.args.rank) c.new-flows.result.items c.args.rank c.args.reader.now c.new-flows.ensures.items

pub returns-in_err-flow : goal.returns-in_err-flow
returns-in_err-flow c =
    let p = err_from_is_err_and c.from_residual.result c.from_residual.ensures.1 in
    rw (p.1, p.2) (times_fail (flow_after c.args.rank) c.loop.flows.items c.args.rank c.loop.counter c.loop.reader c.in_err-flow.field-0.0 (times (flow_after c.args.rank) c.args.rank c.args.reader.now)
    (omega (arith, c.loop-test.true, c.get-end.ensures.same)) c.in_err-flow.ensures c.loop.invariant)

pub loop-preserved : goal.loop-preserved
loop-preserved c =
    let read : flow_after c.args.rank c.loop.reader ≡ Ok (c.in_ok-flow.flow, c.flow_after.new.reader) = search rules in
    rw c.in_ok-push.ensures.items (times_more (flow_after c.args.rank) c.loop.flows.items c.args.rank c.loop.counter c.loop.reader c.in_ok-flow.flow c.flow_after.new.reader (times (flow_after c.args.rank) c.args.rank c.args.reader.now)
    (omega (arith, c.loop-test.true, c.get-end.ensures.same)) read c.loop.invariant)

pub returns : goal.returns
returns c =
    times_end (flow_after c.args.rank) c.loop.flows.items c.args.rank c.loop.counter c.loop.reader (times (flow_after c.args.rank) c.args.rank c.args.reader.now)
    (omega (arith, c.loop-test.false, c.get-end.ensures.same)) c.loop.invariant
