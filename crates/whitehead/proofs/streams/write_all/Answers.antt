use Rattle.std.proofs.Common.{length, arith, length-drop, ap, ◌∙◌}
use Rattle.std.proofs.lemmas.List.{take_rest}
use Rattle.whitehead.proofs.Pieces.{appended_more}
use Rattle.whitehead.proofs.streams.write_all.Goals as goal

pub pieces-preserved : goal.pieces-preserved
pieces-preserved g c = record {
  at = omega (arith, c.in_ok-at.ensures.bound, ap length (take_rest c.args.text.now c.pieces.at), length-drop c.pieces.at c.args.text.now);
  written = appended_more (g.K.Sink.held c.args.sink.now) (g.K.Sink.held c.pieces.sink) (g.K.Sink.held c.write.new.self) c.args.text.now c.pieces.at c.in_ok-at.field-0 c.pieces.invariant.written (rw take_rest at c.in_ok-at.ensures.bytes);
  count = c.in_ok-at.ensures.fault ∙ c.pieces.invariant.count;
}
