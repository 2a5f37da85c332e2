use Rattle.std.proofs.Common.{ℕ, ◌+◌, ◌∙◌, arith, sym, subst, List}
use Rattle.wh_flow.specs.Tables.{cell}
use Rattle.wh_flow.specs.Rerouting.{IsFirstUpTo}
use Rattle.wh_flow.specs.Searches.{IsOfLetters}
use Rattle.wh_flow.proofs.Entries.{nets_on}
use Rattle.wh_words.specs.Flows.{place}
use Rattle.wh_flow.proofs.least.lower_all.Goals as goal

pub lower_row-requires-clause-first : goal.lower_row-requires-clause-first
lower_row-requires-clause-first c = subst (λ (k : List ℕ). IsFirstUpTo (place c.loop-x.x 0) (cell k) (cell c.loop-x.residual.flow)) (sym c.loop-x.invariant.cap) c.loop-x.invariant.first

pub lower_row-requires-clause-of_letters : goal.lower_row-requires-clause-of_letters
lower_row-requires-clause-of_letters c = subst (IsOfLetters c.args.letters) (sym c.loop-x.invariant.cap) c.requires.of_letters

pub loop-x-preserved : goal.loop-x-preserved
loop-x-preserved c = record {
  cap = c.lower_row.ensures.cap ∙ c.loop-x.invariant.cap;
  from = omega (arith, c.lower_row.ensures.from);
  net = nets_on (cell c.args.residual.now.flow) (cell c.loop-x.residual.flow) (cell c.lower_row.new.residual.flow) c.loop-x.invariant.net c.lower_row.ensures.net;
  first = subst (λ (k : List ℕ). IsFirstUpTo (place (c.loop-x.x + 1) 0) (cell k) (cell c.lower_row.new.residual.flow)) c.loop-x.invariant.cap c.lower_row.ensures.first;
}

pub returns-clause-first : goal.returns-clause-first
returns-clause-first c = subst (λ (k : ℕ). IsFirstUpTo (place k 0) (cell c.args.residual.now.cap) (cell c.loop-x.residual.flow)) (omega (arith, c.loop-x-test.false, c.loop-x.auto.x-end)) c.loop-x.invariant.first
