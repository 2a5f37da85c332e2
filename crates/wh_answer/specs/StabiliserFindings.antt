-- What is found of the stabiliser of a tuple by its trace, before its side is made.
use Rattle.std.specs.Prelude.{ℕ, ◌≤◌}
use Rattle.wh_words.specs.Limits.{most_level_edges, most_relators}
use Rattle.wh_words.specs.Tuples.{TupleData}
use Rattle.wh_level.specs.Trees.{LevelData}
use Rattle.wh_reduce.specs.declared.trace.Trace.{Trace}
use Rattle.wh_stab.specs.Relators.{relator_count}
use Rattle.wh_stab.specs.Stabilisers.{HasFewEdges}
use Rattle.wh_data.specs.declared.answer.Parts.{Parts}
use Rattle.wh_data.specs.declared.answer.StabVerdict.TheVariants.{Undecided}
use Rattle.wh_answer.specs.declared.presenting.Presenting.{Presenting}
use Rattle.wh_answer.specs.declared.presenting.Presenting.TheVariants as findings
use Rattle.wh_answer.specs.StabiliserAnswers.{HasLevel, ArePartsOf, Presents}

-- The parts present the stabiliser by the level of the end of the trace, which meets no bound.
pub record PresentsBy (limit : ℕ) (t : TupleData) (trace : Trace) (p : Parts) : Type 0 where
  pub level : LevelData
  pub has : HasLevel limit t trace.moves level
  pub few_edges : HasFewEdges level most_level_edges
  pub few_relators : relator_count level.tuples ≤ most_relators
  pub parts : ArePartsOf t trace.moves level p

-- What is found: parts that present the stabiliser, or the bound that was met.
abbrev pub Finds : ℕ → TupleData → Trace → Presenting → Type 0
Finds limit t trace (findings.Parts p) = PresentsBy limit t trace p
Finds limit t trace (findings.Bound b) = Presents limit t (Undecided b)
