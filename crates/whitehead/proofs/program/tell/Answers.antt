use Rattle.std.proofs.Common.{inr}
use Rattle.whitehead.specs.Outcome.Told.{replied}
use Rattle.whitehead.proofs.Telling.{ran_from}
use Rattle.whitehead.proofs.program.tell.Goals as goal

pub returns-in-Ok-clause-ran : goal.returns-in-Ok-clause-ran
returns-in-Ok-clause-ran g c words left left' asks read whole =
    ran_from _ _ _ _ _ _ c.args.bytes.now read (inr (c.args.arguments, asks, whole)) _ _ _ _ _ (replied asks c.in-Ok.ensures) (rw c.items.ensures at c.finish.ensures)
