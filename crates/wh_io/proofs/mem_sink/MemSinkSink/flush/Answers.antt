use Rattle.std.proofs.Common.{arith, ◌≡◌, ◌∙◌, ap, sym, take, drop, ◌++◌, take-append-drop}
use Rattle.std.proofs.lemmas.Grind.{common_steps}
use Rattle.wh_io.specs.Memory.{SinkState}
use Rattle.wh_io.proofs.mem_sink.MemSinkSink.flush.Goals as goal

-- What was sent on before is a prefix of the bytes held, and what is sent on now is all of them.
pub returns-clause-sent : goal.returns-clause-sent
returns-clause-sent c =
    let held = c.self.inside.bytes.items in
    let before = c.self.inside.sent in
    let whole : take c.len-self-inside.result held ≡ held = grind (arith, common_steps) in
    let same : take before held ≡ c.args.self.now.bytes_sent = ap (λ (s : SinkState). s.bytes_sent) c.self.view_is in
    (drop before held, whole ∙ sym (take-append-drop before held) ∙ ap (λ bs. bs ++ drop before held) same)
