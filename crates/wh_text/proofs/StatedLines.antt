-- Reading what is stated line by line to the end: for the loop over the lines of a problem.
use Rattle.std.proofs.Common.{◌≡◌, ℕ, suc, ◌<◌, Bool, true, false, List, [], ◌∷◌, ◌++◌, append-nil, append_assoc, sym, ap, ◌∙◌, refl, arith, Result, Ok, Err}
use Rattle.std.proofs.lemmas.Bool.{cond-true, cond-false}
use Rattle.wh_words.specs.Tuples.{TupleData}
use Rattle.wh_words.specs.Moves.{Move}
use Rattle.wh_lines.specs.declared.read_error.ReadError.{ReadError}
use Rattle.wh_lines.specs.declared.read_error.ReadError.TheVariants as errors
use Rattle.wh_lines.specs.declared.reader.Next.TheVariants as nexts
use Rattle.wh_lines.specs.Readings.{◌>>=◌, Refuses}
use Rattle.wh_lines.specs.KeptLines.{Kept, Rest}
use Rattle.wh_lines.specs.KeptLines.Rest.{line, bad_byte, end}
use Rattle.wh_lines.specs.LineReadings.{Reading, next, end_of, end_after}
use Rattle.wh_lines.proofs.NextLines.{next_is_line, next_is_end, next_is_bad}
use Rattle.wh_text.specs.Problems.{tuple_line, given_moves, nothing_left, last_moves, has_moves, Stated, with_tuple, stated}

-- how many lines are left
abbrev pub lines_left : Rest → ℕ
lines_left (line k later) = suc (lines_left later)
lines_left (bad_byte l c) = 0
lines_left (end l) = 0

pub fewer_left : (p : Reading) (k : Kept) (q : Reading) → next p ≡ Ok (nexts.Line k, q) → lines_left q.rest < lines_left p.rest
fewer_left p k q h = omega (arith, ap lines_left (next_is_line p k q h).0)

-- what is stated behind these tuples
abbrev pub behind_tuples : List TupleData → Result Stated ReadError → Result Stated ReadError
behind_tuples out r = r >>= λ s. Ok (record { tuples = out ++ s.tuples; moves = s.moves })

behind_one_more : (out : List TupleData) (t : TupleData) (r : Result Stated ReadError) → behind_tuples (out ++ t ∷ []) r ≡ behind_tuples out (r >>= λ s. Ok (with_tuple t s))
behind_one_more out t (Ok s) = ap (λ ts. Ok (record { tuples = ts; moves = s.moves })) (append_assoc out (t ∷ []) s.tuples)
behind_one_more out t (Err e) = refl

-- ---- the moves of the last line
end_nothing : (taken : List ℕ) (r : Rest) (q : Unit {0} × Reading) → end_of taken r ≡ Ok q → nothing_left r ≡ Ok tt
end_nothing taken (line k later) q e = absurd (cc)
end_nothing taken (bad_byte l c) q e = absurd (cc)
end_nothing taken (end l) q e = refl

end_refused : (taken : List ℕ) (r : Rest) (d : ReadError) → end_of taken r ≡ Err d → nothing_left r ≡ Err d
end_refused taken (line k later) d e = (cc)
end_refused taken (bad_byte l c) d e = (cc)
end_refused taken (end l) d e = absurd (cc)

abbrev then_nothing : Rest → Result (List Move) ReadError → Result (List Move) ReadError
then_nothing later r = r >>= λ ms. nothing_left later >>= λ none. Ok ms

pub last_is : (n : ℕ) (k : Kept) (p : Reading) (ms : List Move) (q : Unit {0} × Reading) → given_moves n k ≡ Ok ms → end_after p ≡ Ok q → last_moves n k p.rest ≡ Ok ms
unfolding end_after
last_is n k p ms q e h = ap (then_nothing p.rest) e ∙ ap (λ r. r >>= λ (u : Unit {0}). Ok ms) (end_nothing p.taken p.rest q h)

pub last_refused : (n : ℕ) (k : Kept) (p : Reading) (ms : List Move) (d : ReadError) → given_moves n k ≡ Ok ms → Refuses (end_after p) d → Refuses (last_moves n k p.rest) d
unfolding end_after
last_refused n k p ms d e h = λ known. ap (then_nothing p.rest) e ∙ ap (λ r. r >>= λ (u : Unit {0}). Ok ms) (end_refused p.taken p.rest d (h known))

-- ---- a line
-- the two readings of a line
abbrev with_moves : ℕ → Kept → Rest → Result Stated ReadError
with_moves n k later = last_moves n k later >>= λ ms. Ok (record { tuples = []; moves = Ok ms })

abbrev with_more : Bool → ℕ → Kept → Rest → Result Stated ReadError
with_more takes n k later = tuple_line n k >>= λ t. stated takes n later >>= λ s. Ok (with_tuple t s)

at_tuple : (takes : Bool) (n : ℕ) (p : Reading) (k : Kept) (q : Reading) → next p ≡ Ok (nexts.Line k, q) → has_moves takes k ≡ false → stated takes n p.rest ≡ with_more takes n k q.rest
unfolding stated
at_tuple takes n p k q h other = ap (stated takes n) (next_is_line p k q h).0 ∙ cond-false (has_moves takes k) (with_moves n k q.rest) (with_more takes n k q.rest) other

at_moves : (takes : Bool) (n : ℕ) (p : Reading) (k : Kept) (q : Reading) → next p ≡ Ok (nexts.Line k, q) → has_moves takes k ≡ true → stated takes n p.rest ≡ with_moves n k q.rest
unfolding stated
at_moves takes n p k q h is = ap (stated takes n) (next_is_line p k q h).0 ∙ cond-true (has_moves takes k) (with_moves n k q.rest) (with_more takes n k q.rest) is

pub tuples_more : (takes : Bool) (n : ℕ) (p : Reading) (k : Kept) (q : Reading) (t : TupleData) (out : List TupleData) (total : Result Stated ReadError) → next p ≡ Ok (nexts.Line k, q) → has_moves takes k ≡ false → tuple_line n k ≡ Ok t →
    behind_tuples out (stated takes n p.rest) ≡ total → behind_tuples (out ++ t ∷ []) (stated takes n q.rest) ≡ total
tuples_more takes n p k q t out total h other e so_far =
    behind_one_more out t (stated takes n q.rest)
    ∙ sym (ap (λ r. behind_tuples out (r >>= λ t. stated takes n q.rest >>= λ s. Ok (with_tuple t s))) e)
    ∙ sym (ap (behind_tuples out) (at_tuple takes n p k q h other)) ∙ so_far

pub tuples_fail : (takes : Bool) (n : ℕ) (p : Reading) (k : Kept) (q : Reading) (e : ReadError) (out : List TupleData) (total : Result Stated ReadError) → next p ≡ Ok (nexts.Line k, q) → has_moves takes k ≡ false → Refuses (tuple_line n k) e →
    behind_tuples out (stated takes n p.rest) ≡ total → Refuses total e
tuples_fail takes n p k q e out total h other fails so_far = λ known.
    sym so_far ∙ ap (behind_tuples out) (at_tuple takes n p k q h other)
    ∙ ap (λ r. behind_tuples out (r >>= λ t. stated takes n q.rest >>= λ s. Ok (with_tuple t s))) (fails known)

pub moves_last : (takes : Bool) (n : ℕ) (p : Reading) (k : Kept) (q : Reading) (ms : List Move) (out : List TupleData) (total : Result Stated ReadError) → next p ≡ Ok (nexts.Line k, q) → has_moves takes k ≡ true → last_moves n k q.rest ≡ Ok ms →
    behind_tuples out (stated takes n p.rest) ≡ total → total ≡ Ok (record { tuples = out; moves = Ok ms })
moves_last takes n p k q ms out total h is e so_far =
    sym so_far ∙ ap (behind_tuples out) (at_moves takes n p k q h is)
    ∙ ap (λ r. behind_tuples out (r >>= λ ms. Ok (record { tuples = []; moves = Ok ms }))) e
    ∙ ap (λ ts. Ok (record { tuples = ts; moves = Ok ms })) (append-nil out)

pub moves_fail : (takes : Bool) (n : ℕ) (p : Reading) (k : Kept) (q : Reading) (e : ReadError) (out : List TupleData) (total : Result Stated ReadError) → next p ≡ Ok (nexts.Line k, q) → has_moves takes k ≡ true → Refuses (last_moves n k q.rest) e →
    behind_tuples out (stated takes n p.rest) ≡ total → Refuses total e
moves_fail takes n p k q e out total h is fails so_far = λ known.
    sym so_far ∙ ap (behind_tuples out) (at_moves takes n p k q h is)
    ∙ ap (λ r. behind_tuples out (r >>= λ ms. Ok (record { tuples = []; moves = Ok ms }))) (fails known)

pub lines_bad : (takes : Bool) (n : ℕ) (p : Reading) (e : ReadError) (out : List TupleData) (total : Result Stated ReadError) → Refuses (next p) e → behind_tuples out (stated takes n p.rest) ≡ total → Refuses total e
unfolding stated
lines_bad takes n p e out total fails so_far = λ known.
    let bad = next_is_bad p e (fails known) in
    sym so_far ∙ ap (λ r. behind_tuples out (stated takes n r)) bad.2 ∙ ap (λ d. Err d) (sym bad.3)

pub lines_end : (takes : Bool) (n : ℕ) (p : Reading) (l : ℕ) (q : Reading) (out : List TupleData) (total : Result Stated ReadError) → next p ≡ Ok (nexts.End l, q) →
    behind_tuples out (stated takes n p.rest) ≡ total → total ≡ Ok (record { tuples = out; moves = Err (errors.BadLine l) })
unfolding stated
lines_end takes n p l q out total h so_far =
    sym so_far ∙ ap (λ r. behind_tuples out (stated takes n r)) (next_is_end p l q h).0 ∙ ap (λ ts. Ok (record { tuples = ts; moves = Err (errors.BadLine l) })) (append-nil out)
