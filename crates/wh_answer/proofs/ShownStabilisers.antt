-- What a valid certificate shows of a stabiliser, whoever wrote it.
use Rattle.std.proofs.Common.{◌≡◌, ℕ, ◌+◌, ◌<◌, ◌≤◌, List, [], ◌∷◌, ◌++◌, length, None, Contains, refl, sym, ◌∙◌, subst, arith}
use Rattle.std.specs.List.{All}
use Rattle.std.proofs.lemmas.List.Elements.{All-head, All-tail, All-from_get_or, Contains-get_or}
use Rattle.wh_words.specs.Limits.{most_rank}
use Rattle.wh_words.specs.Tuples.{TupleData, IsTuple}
use Rattle.wh_words.specs.Moves.{Move}
use Rattle.wh_words.specs.Action.{act, act_all}
use Rattle.wh_words.specs.Levels.{Reaches, InLevel, IsLevel}
use Rattle.wh_words.specs.Levels.Reaches.{here, step}
use Rattle.wh_moves.proofs.Walks.{reached_rank, reached_length}
use Rattle.wh_peak.specs.Equivalence.{AreMovesOfRank}
use Rattle.wh_peak.specs.Relations.{IsTrivial}
use Rattle.wh_peak.specs.Stabilisers.{LeadsToFlat}
use Rattle.wh_stab.specs.SpanningTrees.{IsSpanningTree}
use Rattle.wh_stab.specs.Presentations.{PresentationData, IsPresented}
use Rattle.wh_stab.specs.Laws.{IsRelator}
use Rattle.wh_stab.proofs.OwnStabilisers.{same_generators, same_numbers}
use Rattle.wh_stab.proofs.Words.{fix_the_tuple, automorphisms_are_words, tell_relators}
use Rattle.wh_data.specs.declared.answer.Loop.{Loop}
use Rattle.wh_data.specs.RootPlaces.{root_place}
use Rattle.wh_data.specs.AnswerData.{SideData, PartsData}
use Rattle.wh_data.specs.AnswerData.StabVerdictData.{done}
use Rattle.wh_data.specs.Numberings.{ArePartsOfRank, IsStabOfRank, side_lines, tree_lines}
use Rattle.wh_cert.specs.Demands.{Placed, StepsIn, has_steps, leads_back, has_short_images, is_identity, has_numbers, presented_by, tuple_at, loop_at, level_asked, tree_asked, generators_asked, loop_asked, relator_asked, relators_asked, parts_asked, side_asked, stab_asked}
use Rattle.wh_cert.specs.Checks.{AreMet}
use Rattle.wh_cert.proofs.MetParts.{first_part, rest_part, first_met, rest_met, met_in}
use Rattle.wh_cert.proofs.Spanning.{level_and_tree}
use Rattle.wh_cert.proofs.JudgedGenerators.{own_generators}
use Rattle.wh_answer.specs.StabiliserAnswers.{told_loop}
use Rattle.wh_answer.specs.StabiliserMeanings.{told_presentation, PresentsStabiliser}
use Rattle.wh_answer.proofs.ShownSides.{side_shown}

-- Moves that aren't identity cuts and lead from tuple to tuple of a level are a walk in it.
walked : (root : TupleData) (ts : List TupleData) (t : TupleData) (ms : List Move) → IsLevel root ts → Contains ts t → All (λ m. m.rank ≡ root.rank) ms → StepsIn ts t ms → Reaches t ms (act_all t ms)
walked root ts t [] level there ranks steps = here
walked root ts t (m ∷ ms) level there ranks steps =
    let rank : m.rank ≡ root.rank = All-head (λ (x : Move). x.rank ≡ root.rank) m ms ranks in
    let walk : InLevel root t = (level.exact t).0 there in
    let next : InLevel root (act t m) = (level.exact (act t m)).0 steps.2 in
    step (record { valid = steps.0; rank = rank ∙ sym (reached_rank walk.1); kept = reached_length next.1 ∙ sym (reached_length walk.1); moves = steps.1 })
    (walked root ts (act t m) ms level steps.2 (All-tail (λ (x : Move). x.rank ≡ root.rank) m ms ranks) steps.3)

-- ---- relators
module _ (t : TupleData) (s : SideData) (p : PartsData) (end : s.end.rank ≡ t.rank) (is : IsPresented t s.end (told_presentation s p)) where
  relator_shown : (place : ℕ) (r : Loop) → All (λ m. m.rank ≡ s.end.rank) r.moves → AreMet (loop_asked place s.end.rank p r) → IsRelator t.rank (told_presentation s p) (told_loop r)
  relator_shown place r ranks met =
      let q : PresentationData = told_presentation s p in
      let v : TupleData = tuple_at p.vertices r.at in
      let n : ℕ = s.end.rank in
      let fifth : List Placed = (place, has_numbers p r) ∷ [] in
      let fourth : List Placed = (place, is_identity n r) ∷ fifth in
      let third : List Placed = (place, has_short_images n r) ∷ fourth in
      let second : List Placed = (place, leads_back p r) ∷ third in
      let after_steps : AreMet second = rest_met place (has_steps p r) second met in
      let after_back : AreMet third = rest_met place (leads_back p r) third after_steps in
      let after_images : AreMet fourth = rest_met place (has_short_images n r) fourth after_back in
      let after_identity : AreMet fifth = rest_met place (is_identity n r) fifth after_images in
      let steps : (r.at < length p.vertices) × StepsIn p.vertices v r.moves = first_met place (has_steps p r) second met in
      let back : act_all v r.moves ≡ v = first_met place (leads_back p r) third after_steps in
      let trivial : IsTrivial t.rank r.moves = subst (λ (k : ℕ). IsTrivial k r.moves) end (first_met place (is_identity n r) fifth after_images) in
      let there : Contains p.vertices v = Contains-get_or p.vertices r.at (record { rank = 0; words = [] }) steps.0 in
      let way : Reaches v r.moves v = subst (Reaches v r.moves) back (walked s.end p.vertices v r.moves is.level there ranks steps.1) in
      let told = tell_relators t s.end v q r.moves r.word is ((is.level.exact v).0 there) way (same_numbers (presented_by p p.generators) q refl refl refl (first_met place (has_numbers p r) [] after_identity)) trivial in
      record { moves = trivial; numbers = told.0; word = told.1 }

  relators_shown : (place : ℕ) → All (λ r. All (λ m. m.rank ≡ s.end.rank) r.moves) p.relators → AreMet (relators_asked place s.end.rank p) → All (λ r. IsRelator t.rank (told_presentation s p) (told_loop r)) p.relators
  relators_shown place ranks met =
      All-from_get_or (λ (r : Loop). IsRelator t.rank (told_presentation s p) (told_loop r)) p.relators (record { at = 0; moves = []; word = [] }) (λ k l.
      relator_shown (place + k) (loop_at p.relators k) (ranks k (record { at = 0; moves = []; word = [] }) l) (met_in (relator_asked place s.end.rank p) (length p.relators) k l met))

-- ---- the whole
pub stab_shown : (heads : List (ℕ × ℕ)) (tree_heads : List ℕ) (t : TupleData) (s : SideData) (p : PartsData) → IsStabOfRank t.rank (done s p) → IsTuple t → t.rank ≤ most_rank → IsTuple s.end → AreMovesOfRank t.rank s.trace →
    AreMet (stab_asked 3 heads tree_heads t (done s p)) → LeadsToFlat t s.trace s.end × PresentsStabiliser t s p
stab_shown heads tree_heads t s p of_rank is low end_is trace met =
    let place : ℕ = 3 + side_lines t.rank in
    let from : ℕ = place + 1 + length p.vertices in
    let after : ℕ = place + 3 + length p.vertices + tree_lines p + length p.generators in
    let top : ℕ = root_place s.end p.vertices in
    let side : List Placed = side_asked 3 heads t s in
    let level : List Placed = level_asked place s.end None p.vertices in
    let edges : List Placed = tree_asked from tree_heads top p in
    let starts : List Placed = generators_asked (from + tree_lines p) p in
    let ways : List Placed = relators_asked after s.end.rank p in
    let parts : AreMet (level ++ (edges ++ (starts ++ ways))) = rest_part side (parts_asked place tree_heads s.end p) met in
    let after_level : AreMet (edges ++ (starts ++ ways)) = rest_part level (edges ++ (starts ++ ways)) parts in
    let after_tree : AreMet (starts ++ ways) = rest_part edges (starts ++ ways) after_level in
    let end : s.end.rank ≡ t.rank = of_rank.0.end in
    let are : ArePartsOfRank s.end.rank s.end p = subst (λ (k : ℕ). ArePartsOfRank k s.end p) (sym end) of_rank.1 in
    let leads : LeadsToFlat t s.trace s.end = side_shown 3 heads t s trace end_is (omega (arith, end, low)) (first_part side (parts_asked place tree_heads s.end p) met) in
    let shown : IsLevel s.end p.vertices × IsSpanningTree s.end p.vertices p.tree =
    level_and_tree place from tree_heads s.end p are (first_part level (edges ++ (starts ++ ways)) parts) (first_part edges (starts ++ ways) after_level) in
    let q : PresentationData = told_presentation s p in
    let presented : IsPresented t s.end q = record {
      tuple = is;
      rank = low;
      leads = leads;
      level = shown.0;
      tree = shown.1;
      generators = same_generators (presented_by p p.generators) q refl refl refl (own_generators (from + tree_lines p) p (first_part starts ways after_tree));
    } in (
      leads,
      record {
        fix = fix_the_tuple t s.end q presented;
        generate = automorphisms_are_words t s.end q presented;
        relators = relators_shown t s p end presented after are.relators (rest_part starts ways after_tree);
      },
    )
