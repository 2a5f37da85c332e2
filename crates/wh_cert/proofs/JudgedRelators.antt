-- What is asked of a relator, one demand after another.
use Rattle.std.proofs.Common.{◌≡◌, ℕ, ◌<◌, List, [], ◌∷◌, length, get_or, Result, Ok, Err, sym, subst, arith}
use Rattle.std.specs.Prelude.{OnOk}
use Rattle.std.specs.List.{All}
use Rattle.std.proofs.lemmas.List.{length-map}
use Rattle.std.proofs.lemmas.Option.{get_or_from_slice_get}
use Rattle.wh_words.specs.Tuples.{TupleData, Tuple}
use Rattle.wh_words.specs.Moves.{Move}
use Rattle.wh_data.specs.declared.answer.Loop.{Loop}
use Rattle.wh_data.specs.AnswerData.{plains}
use Rattle.wh_cert.specs.declared.stop.Stop.{Stop}
use Rattle.wh_cert.specs.Demands.{Demand, IsMet, loop_at}
use Rattle.wh_cert.specs.Judged.{Judges}
use Rattle.wh_cert.specs.VertexWays.{AreVertices}
use Rattle.wh_cert.proofs.Judging.{met_ok}
use Rattle.wh_cert.proofs.MetParts.{first_met}
use Rattle.wh_cert.proofs.JudgedTrees.{stands}

-- What is so whatever a call answers is so where it answers well.
pub on_each : {T E : Type 0} (r : Result T E) {P : Type 0} → P → OnOk r P
on_each (Ok x) p = p
on_each (Err e) p = tt

-- Where judging goes on behind a demand this is met.
pub one_was_met : (place : ℕ) (d : Demand) (r : Result (Unit {0}) Stop) (u : Unit {0}) → Judges ((place, d) ∷ []) r → r ≡ Ok u → IsMet d
one_was_met place d r u judged e = first_met place d [] (met_ok ((place, d) ∷ []) r u judged e)

pub own_place : (ts : List Tuple) (v : ℕ) → v < length (plains ts) → v < length ts
own_place ts v l = omega (arith, l, length-map ts (λ (t : Tuple). t.plain))

-- Vertices are of the rank of the moves.
pub own_vertices : (n : ℕ) (ts : List TupleData) (ms : List Move) → AreVertices n ts → All (λ m. m.rank ≡ n) ms → All (λ m. AreVertices m.rank ts) ms
own_vertices n ts ms are ranks k d l = subst (λ (r : ℕ). AreVertices r ts) (sym (ranks k d l)) are

-- The relator at a place.
pub own_relator : (rs : List Loop) (r : Loop) (k : ℕ) → k < length rs → r ≡ get_or rs k r → r ≡ loop_at rs k
own_relator rs r k within read = sym (get_or_from_slice_get rs k r (record { at = 0; moves = []; word = [] }) (stands rs k r within read))

pub own_ranks : (n : ℕ) (rs : List Loop) (r : Loop) (k : ℕ) → k < length rs → r ≡ get_or rs k r → All (λ s. All (λ m. m.rank ≡ n) s.moves) rs → All (λ m. m.rank ≡ n) r.moves
own_ranks n rs r k within read all = subst (λ (s : Loop). All (λ m. m.rank ≡ n) s.moves) (sym read) (all k r within)
