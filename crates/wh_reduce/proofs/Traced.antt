-- The trace of a tuple, step by step.
use Rattle.std.proofs.Common.{◌≡◌, ◌*◌, ◌<◌, ◌≤◌, List, [], ◌∷◌, ◌++◌, length, refl, sym, ap, ◌∙◌, subst, arith, append_assoc, append-nil}
use Rattle.wh_words.specs.Tuples.{TupleData, Tuple, IsTuple, tuple_length, own_room, in_rooms_of}
use Rattle.wh_words.specs.Moves.{Move}
use Rattle.wh_words.specs.Action.{act, substitute}
use Rattle.wh_words.specs.CyclicWords.{cyclic_word}
use Rattle.std.proofs.lemmas.List.{length-map}
use Rattle.wh_words.specs.Traces.{cut_length, IsFlat}
use Rattle.wh_words.specs.CapacityTraces.{IsFlatByCapacities, IsCapacityStep, IsCapacityTrace}
use Rattle.wh_words.specs.CapacityTraces.IsCapacityTrace.{done, step}
use Rattle.wh_graph.proofs.Lengths.{cuts_shorten}
use Rattle.wh_graph.proofs.Agreement.{flat_by_capacities}

-- The moves are the front of the trace of t, up to now.
pub record Traced (t : TupleData) (moves : List Move) (now : TupleData) : Type 0 where
  pub front : (ms : List Move) (end : TupleData) → IsCapacityTrace now ms end → IsCapacityTrace t (moves ++ ms) end

pub traced_start : (t : TupleData) → Traced t [] t
traced_start t = record { front = λ ms end r. r }

pub traced_step : (t now next : TupleData) (moves : List Move) (m : Move) → Traced t moves now → IsCapacityStep now m → next ≡ act now m → Traced t (moves ++ m ∷ []) next
traced_step t now next moves m d s e = record {
  front = λ ms end r. subst (λ (l : List Move). IsCapacityTrace t l end) (sym (append_assoc moves (m ∷ []) ms))
      (d.front (m ∷ ms) end (step s (subst (λ (u : TupleData). IsCapacityTrace u ms end) e r)));
}

pub traced_end : (t now : TupleData) (moves : List Move) → Traced t moves now → IsFlatByCapacities now → IsCapacityTrace t moves now
traced_end t now moves d f = subst (λ (l : List Move). IsCapacityTrace t l now) (append-nil moves) (d.front [] now (done f))

pub flat_from_capacities : (t : TupleData) → IsTuple t → IsFlatByCapacities t → IsFlat t
flat_from_capacities t is f = (flat_by_capacities t is).1 f

-- ---- the rooms of the two tuples
-- The tuple now is of the rank of t, has as many words and no more letters, and both it and the spare one have the rooms of t.
pub record AreRoomy (t : TupleData) (now spare : Tuple) : Type 0 where
  pub rank : now.plain.rank ≡ t.rank
  pub count : length now.plain.words ≡ length t.words
  pub short : tuple_length now.plain ≤ tuple_length t
  pub room : now.room ≡ tuple_length t
  pub word_room : now.word_room ≡ length t.words
  pub spare_room : spare.room ≡ tuple_length t
  pub spare_word_room : spare.word_room ≡ length t.words

pub roomy_start : (now spare : Tuple) → now ≡ own_room now.plain → spare ≡ now → AreRoomy now.plain now spare
roomy_start now spare own same = record {
  rank = refl;
  count = refl;
  short = omega arith;
  room = ap (λ (u : Tuple). u.room) own;
  word_room = ap (λ (u : Tuple). u.word_room) own;
  spare_room = ap (λ (u : Tuple). u.room) (same ∙ own);
  spare_word_room = ap (λ (u : Tuple). u.word_room) (same ∙ own);
}

pub step_shortens : (t : TupleData) (m : Move) → IsTuple t → IsCapacityStep t m → tuple_length (act t m) < tuple_length t
step_shortens t m is s =
    let shorter : cut_length t (2 * s.generator) s.set < tuple_length t = (cuts_shorten t (2 * s.generator) s.set is s.cut.valid).1 s.below in
    subst (λ (k : Move). tuple_length (act t k) < tuple_length t) (sym s.is) shorter

pub step_smaller : (now spare next : Tuple) (m : Move) → IsTuple now.plain → IsCapacityStep now.plain m → next ≡ in_rooms_of spare (act now.plain m) → tuple_length next.plain < tuple_length now.plain
step_smaller now spare next m is s e = omega (arith, ap (λ (u : Tuple). tuple_length u.plain) e, step_shortens now.plain m is s)

-- The tuple after the step stands in the spare one, and both change places.
pub roomy_step : (t : TupleData) (now spare next : Tuple) (m : Move) → AreRoomy t now spare → IsTuple now.plain → IsCapacityStep now.plain m → next ≡ in_rooms_of spare (act now.plain m) → AreRoomy t next now
roomy_step t now spare next m r is s e = record {
  rank = ap (λ (u : Tuple). u.plain.rank) e ∙ r.rank;
  count = ap (λ (u : Tuple). length u.plain.words) e ∙ length-map now.plain.words (λ w. cyclic_word (substitute m.kind w)) ∙ r.count;
  short = omega (arith, ap (λ (u : Tuple). tuple_length u.plain) e, step_shortens now.plain m is s, r.short);
  room = ap (λ (u : Tuple). u.room) e ∙ r.spare_room;
  word_room = ap (λ (u : Tuple). u.word_room) e ∙ r.spare_word_room;
  spare_room = r.room;
  spare_word_room = r.word_room;
}
