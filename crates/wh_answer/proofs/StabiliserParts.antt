-- The parts of a stabiliser: they are those that were found, and can be printed.
use Rattle.std.proofs.Common.{◌≡◌, ℕ, ◌^◌, ◌<◌, ◌≤◌, List, [], ◌∷◌, length, get_or, map, Option, None, Some, slice_get, sym, ap, ◌∙◌, subst, arith}
use Rattle.std.specs.Prelude.{IfSome}
use Rattle.std.specs.List.{All}
use Rattle.std.proofs.lemmas.List.Elements.{All-nil, All-cons, All-head, All-tail, Contains-get_or}
use Rattle.std.proofs.lemmas.Option.{slice_get_within, slice_get-get_or}
use Rattle.wh_words.specs.Tuples.{TupleData, Tuple, IsTuple}
use Rattle.wh_words.specs.Moves.{Move}
use Rattle.wh_words.specs.CapacityTraces.{IsCapacityTrace}
use Rattle.wh_words.specs.Levels.{IsLevel}
use Rattle.wh_peak.proofs.Generators.{traces_lead}
use Rattle.wh_reduce.specs.declared.trace.Trace.{Trace}
use Rattle.wh_level.specs.Trees.{Parents, LevelData}
use Rattle.wh_stab.specs.SpanningTrees.{IsSpanningTree}
use Rattle.wh_stab.specs.Presentations.{Start, PresentationData, IsOffTree}
use Rattle.wh_stab.specs.GeneratorLists.{presentation_of}
use Rattle.wh_stab.specs.Relators.{relator_of, IsSpelled, AreRelators}
use Rattle.wh_stab.specs.Stabilisers.{IsStabiliser}
use Rattle.wh_stab.specs.declared.stab.Stab.{Stab}
use Rattle.wh_stab.proofs.OwnStabilisers.{same_generators, same_relators, trace_root}
use Rattle.wh_fields.specs.StabiliserFields.{HasNumber}
use Rattle.wh_data.specs.declared.answer.Loop.{Loop}
use Rattle.wh_data.specs.declared.answer.Parts.{Parts}
use Rattle.wh_data.specs.declared.answer.Side.{Side}
use Rattle.wh_data.specs.declared.answer.StabVerdict.{StabVerdict}
use Rattle.wh_data.specs.declared.answer.StabVerdict.TheVariants.{Done}
use Rattle.wh_data.specs.AnswerData.{parts_of, stab_verdict_of}
use Rattle.wh_data.specs.AnswerTexts.{IsPrintableStab}
use Rattle.wh_data.specs.PresentationTexts.{HaveNumbers}
use Rattle.wh_answer.specs.Sides.{IsSideOf}
use Rattle.wh_answer.specs.StabiliserAnswers.{told_loop, presentation_by, HasLevel, ArePartsOf, Presents}
use Rattle.wh_answer.specs.StabiliserFindings.{PresentsBy}
use Rattle.wh_answer.specs.StabiliserAnswers.Presents.{too_long, too_many, many_edges, many_relators, presented}
use Rattle.wh_answer.proofs.Sides.{flows_have_lines}

-- ---- what was found
-- The parts of a stabiliser, by any trace that leads to the root.
pub parts_made : (t : TupleData) (l : LevelData) (trace : List Move) (s : Stab) (p : Parts) → IsCapacityTrace t trace l.root → IsStabiliser t l s → p.vertices ≡ s.vertices → p.tree ≡ s.tree.parent → p.generators ≡ s.generators →
    map told_loop p.relators ≡ map relator_of s.relators → ArePartsOf t trace l p
parts_made t l trace s p leads is vertices tree generators relators =
    let q : PresentationData = presentation_by trace p in
    let plain : map (λ u. u.plain) s.vertices ≡ map (λ u. u.plain) p.vertices = ap (map (λ (u : Tuple). u.plain)) (sym vertices) in
    record {
      presented = record {
        tuple = is.presented.tuple;
        rank = is.presented.rank;
        leads = traces_lead t l.root trace is.presented.tuple is.presented.rank leads;
        level = subst (IsLevel l.root) plain is.presented.level;
        tree = subst (λ (ts : List TupleData). IsSpanningTree l.root ts p.tree) plain (subst (IsSpanningTree l.root (map (λ u. u.plain) s.vertices)) (sym tree) is.presented.tree);
        generators = same_generators (presentation_of s) q plain (sym tree) (sym generators) is.presented.generators;
      };
      vertices = sym plain ∙ is.vertices;
      tree = tree ∙ is.tree;
      relators = subst (AreRelators q) (sym relators) (same_relators (presentation_of s) q plain (sym tree) (sym generators) (map relator_of s.relators) is.relators);
    }

-- What is answered where parts were found by a trace, and the side has this trace.
pub done_by : (limit : ℕ) (t : TupleData) (trace : Trace) (side : Side) (p : Parts) → side.trace ≡ trace.moves → IsSideOf t side → PresentsBy limit t trace p → Presents limit t (Done side p)
done_by limit t trace side p e own by =
    presented (subst (λ (ms : List Move). HasLevel limit t ms by.level) (sym e) by.has) by.few_edges by.few_relators own (subst (λ (ms : List Move). ArePartsOf t ms by.level p) (sym e) by.parts)

-- ---- what is printed
-- The place of a tuple has the number of a line.
numbered : (ts : List TupleData) (limit v : ℕ) (t : TupleData) → length ts ≤ limit → limit < 2 ^ 32 → slice_get ts v ≡ Some t → HasNumber v
numbered ts limit v t few low at = omega (arith, slice_get_within ts v t at, few, low)

parent_numbered : (root : TupleData) (ts : List TupleData) (ps : Parents) (limit v : ℕ) (e : Option (ℕ × Move)) → length ts ≤ limit → limit < 2 ^ 32 → IsSpanningTree root ts ps → slice_get ps v ≡ Some e → IfSome e (λ s. HasNumber s.0)
parent_numbered root ts ps limit v None few low tree at = tt
parent_numbered root ts ps limit v (Some s) few low tree at = let link = tree.links v s.0 s.1 at in numbered ts limit s.0 link.tuple few low link.starts

loops_numbered : (q : PresentationData) (limit : ℕ) (rs : List Loop) → length q.vertices ≤ limit → limit < 2 ^ 32 → All (IsSpelled q) (map told_loop rs) → All (λ r. HasNumber r.at) rs
loops_numbered q limit [] few low spelled = All-nil (λ (r : Loop). HasNumber r.at)
loops_numbered q limit (r ∷ rs) few low spelled =
    let first : IsSpelled q (told_loop r) = All-head (IsSpelled q) (told_loop r) (map told_loop rs) spelled in
    All-cons (λ (s : Loop). HasNumber s.at) r rs (numbered q.vertices limit r.at first.tuple few low first.starts) (loops_numbered q limit rs few low (All-tail (IsSpelled q) (told_loop r) (map told_loop rs) spelled))

parts_numbered : (t : TupleData) (l : LevelData) (trace : List Move) (p : Parts) (limit : ℕ) → length l.tuples ≤ limit → limit < 2 ^ 32 → ArePartsOf t trace l p → HaveNumbers (parts_of p)
parts_numbered t l trace p limit few low are =
    let q : PresentationData = presentation_by trace p in
    let short : length q.vertices ≤ limit = omega (arith, few, ap length are.vertices) in
    record {
      parents = λ v d h. parent_numbered l.root q.vertices p.tree limit v (get_or p.tree v d) short low are.presented.tree (slice_get-get_or p.tree v d h);
      generators = λ k d h.
          let s : Start = get_or p.generators k d in
          let off : IsOffTree q s = (are.presented.generators.exact s).0 (Contains-get_or p.generators k d h) in
          numbered q.vertices limit s.0 off.tuple short low off.starts;
      relators = loops_numbered q limit p.relators short low are.relators.spelled;
    }

pub present_printable : (limit : ℕ) (t : TupleData) (v : StabVerdict) → IsTuple t → t.rank ≤ 4 → limit < 2 ^ 32 → Presents limit t v → IsPrintableStab (stab_verdict_of v)
present_printable limit t v is small low (too_long leads long) = tt
present_printable limit t v is small low (too_many leads short more) = tt
present_printable limit t v is small low (many_edges has more) = tt
present_printable limit t v is small low (many_relators has few more) = tt
present_printable limit t v is small low (presented {side = side} {parts = p} {l = l} has few less own are) = (
  flows_have_lines side.end.plain side.flows (trace_root t side.end.plain side.trace is small own.trace).0 own.flows,
  parts_numbered t l side.trace p limit has.few low are,
)
