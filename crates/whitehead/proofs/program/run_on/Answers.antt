use Rattle.std.proofs.Common.{ℕ, subst}
use Rattle.whitehead.specs.Streams.{IsWholeUpTo}
use Rattle.whitehead.proofs.program.run_on.Goals as goal

pub returns-in-Ok-clause-ran : goal.returns-in-Ok-clause-ran
returns-in-Ok-clause-ran g c words asks =
    let left = g.S.Source.left c.read_all.new.source in
    c.tell.ensures.ran words (g.S.Source.left c.args.source.now) left asks (rw c.deref.ensures.value c.in-Ok.ensures.bytes)
    (rw c.deref.ensures.value (subst (λ (n : ℕ). IsWholeUpTo n c.in-Ok.bytes.items left) c.most_input.ensures c.in-Ok.ensures.whole))
