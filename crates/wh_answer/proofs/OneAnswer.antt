-- A problem has one answer, as far as its text and its status go.
use Rattle.std.proofs.Common.{◌≡◌, ◌≢◌, ◌⊎◌, ℕ, ◌<◌, ◌≤◌, List, [], ◌∷◌, ◌++◌, length, refl, sym, ap, ap₂, ◌∙◌, subst, arith, inl, inr}
use Rattle.std.specs.Prelude.{codes}
use Rattle.std.proofs.lemmas.List.{length-map}
use Rattle.wh_words.specs.Tuples.{TupleData, Tuple, IsTuple, tuple_length}
use Rattle.wh_words.specs.Moves.{Move}
use Rattle.wh_words.specs.MoveLists.{inverse_list}
use Rattle.wh_words.specs.CapacityTraces.{IsCapacityTrace}
use Rattle.wh_words.specs.Levels.{InLevel, IsLevel, IsFirstWalk, HasMoreThan}
use Rattle.wh_level.proofs.LawProofs.{level_unique, limit_exact, first_walk_unique}
use Rattle.wh_data.specs.declared.status.Status.{Status}
use Rattle.wh_data.specs.declared.status.Status.TheVariants as statuses
use Rattle.wh_data.specs.declared.answer.Side.{Side}
use Rattle.wh_data.specs.declared.answer.Bound.TheVariants.{Length, Level}
use Rattle.wh_data.specs.declared.answer.Verdict.{Verdict}
use Rattle.wh_data.specs.declared.answer.Verdict.TheVariants.{Yes, NoLength, NoLevel, Undecided}
use Rattle.wh_data.specs.declared.answer.Answer.TheVariants as answers
use Rattle.wh_data.specs.ProblemData.ProblemData.{reduce, decide, straighten, stabiliser}
use Rattle.wh_data.specs.AnswerData.{VerdictData, plains, side_of, verdict_of}
use Rattle.wh_fields.specs.TupleFields.{words_row}
use Rattle.wh_lines.specs.Rows.{Row, number_row, rows_text}
use Rattle.wh_data.specs.declared.command.Command.TheVariants as commands
use Rattle.wh_data.specs.Commands.{heading_row}
use Rattle.wh_data.specs.AnswerTexts.{side_rows, level_rows, verdict_row, verdict_rows, done_row, answer_text}
use Rattle.wh_data.specs.Statuses.{verdict_status}
use Rattle.wh_answer.specs.Sides.{IsSideOf}
use Rattle.wh_answer.specs.Answers.{EndApart, Decides}
use Rattle.wh_answer.specs.Answers.Decides.{other_lengths, one_end, too_long, too_many, joined, off_level}
use Rattle.wh_answer.specs.Laws.{AnswerIsUnique}
use Rattle.wh_answer.proofs.Branches.{branch}
use Rattle.wh_answer.proofs.OneSide.{trace_one, side_one}
use Rattle.wh_answer.proofs.OneStabiliser.{stab_told, stab_one}

-- ---- the verdict
-- Rows and a status.
abbrev Told : Type 0
Told = List Row × Status

-- The rows of a verdict.
abbrev rows_told : VerdictData → List Row
rows_told v = verdict_row v ∷ verdict_rows v

abbrev told : Verdict → Told
told v = (rows_told (verdict_of v), verdict_status v)

module _ (limit : ℕ) (s t u w : TupleData) (ms ns : List Move) where
  -- What is told where the ends u and w of the traces ms and ns are in one level, by whether w is reached.
  abbrev InSmallLevel : Told → Type 0
  InSmallLevel x =
      (InLevel u w × ((walk : List Move) × IsFirstWalk u w walk × (x ≡ told (Yes (ms ++ (walk ++ inverse_list ns))))))
      ⊎ ((¬ (InLevel u w)) × ((a b : Side) × (ts : List Tuple) × IsSideOf s a × IsSideOf t b × IsLevel u (plains ts) × (x ≡ told (NoLevel a b ts))))

  -- What is told where they have one length of 256 at most and are apart, by whether the level is too large.
  abbrev InSmallTuples : Told → Type 0
  InSmallTuples x = (HasMoreThan u limit × (x ≡ told (Undecided (Level limit)))) ⊎ (((ts : List TupleData) × IsLevel u ts × (length ts ≤ limit)) × InSmallLevel x)

  -- What is told where they have one length and are apart, by whether they are too long.
  abbrev WhereApart : Told → Type 0
  WhereApart x = ((256 < tuple_length u) × (x ≡ told (Undecided (Length (tuple_length u))))) ⊎ ((tuple_length u ≤ 256) × InSmallTuples x)

  -- What is told where they have one length, by whether they are one tuple.
  abbrev InOneLength : Told → Type 0
  InOneLength x = ((u ≡ w) × (x ≡ told (Yes (ms ++ inverse_list ns)))) ⊎ ((u ≢ w) × WhereApart x)

  -- What is told, by whether they have one length.
  abbrev IsTold : Told → Type 0
  IsTold x = ((tuple_length u ≢ tuple_length w) × ((a b : Side) × IsSideOf s a × IsSideOf t b × (x ≡ told (NoLength a b)))) ⊎ ((tuple_length u ≡ tuple_length w) × InOneLength x)

  no_length_one : IsTuple s → s.rank ≤ 26 → IsTuple t → t.rank ≤ 26 → (x y : Told) → ((a b : Side) × IsSideOf s a × IsSideOf t b × (x ≡ told (NoLength a b))) → ((a b : Side) × IsSideOf s a × IsSideOf t b × (y ≡ told (NoLength a b))) → x ≡ y
  no_length_one is low js just x y (a, b, i, j, e) (c, d, k, l, f) =
      e ∙ ap₂ (λ v q. (record { keyword = codes "verdict"; fields = codes "no" ∷ codes "length" ∷ [] } ∷ v ++ q, statuses.No)) (side_one s a c is low i k) (side_one t b d js just j l) ∙ sym f

  no_level_one : IsTuple s → s.rank ≤ 26 → IsTuple t → t.rank ≤ 26 → (x y : Told) → ((a b : Side) × (ts : List Tuple) × IsSideOf s a × IsSideOf t b × IsLevel u (plains ts) × (x ≡ told (NoLevel a b ts))) →
      ((a b : Side) × (ts : List Tuple) × IsSideOf s a × IsSideOf t b × IsLevel u (plains ts) × (y ≡ told (NoLevel a b ts))) → x ≡ y
  no_level_one is low js just x y (a, b, ts, i, j, h, e) (c, d, us, k, l, g, f) =
      let same : plains ts ≡ plains us = level_unique u (plains ts) (plains us) h g in
      let word : Row = record { keyword = codes "verdict"; fields = codes "no" ∷ codes "level" ∷ [] } in
      e ∙ ap₂ (λ v q. (word ∷ (v ++ q) ++ level_rows (plains ts), statuses.No)) (side_one s a c is low i k) (side_one t b d js just j l)
      ∙ ap (λ ls. (word ∷ (side_rows (side_of c) ++ side_rows (side_of d)) ++ level_rows ls, statuses.No)) same ∙ sym f

  told_once : IsTuple s → s.rank ≤ 26 → IsTuple t → t.rank ≤ 26 → (x y : Told) → IsTold x → IsTold y → x ≡ y
  told_once is low js just =
      branch (λ x. (a b : Side) × IsSideOf s a × IsSideOf t b × (x ≡ told (NoLength a b))) InOneLength (λ n e. n e)
      (λ x y _. no_length_one is low js just x y)
      (λ x y _. branch (λ z. z ≡ told (Yes (ms ++ inverse_list ns))) WhereApart (λ e n. n e) (λ z v _ e f. e ∙ sym f)
      (λ z v _. branch (λ r. r ≡ told (Undecided (Length (tuple_length u)))) InSmallTuples (λ more few. omega (arith, more, few)) (λ r q _ e f. e ∙ sym f)
      (λ r q _. branch (λ o. o ≡ told (Undecided (Level limit))) InSmallLevel (λ more few. limit_exact u few.0 limit few.1 more few.2) (λ o p _ e f. e ∙ sym f)
      (λ o p _. branch (λ k. (walk : List Move) × IsFirstWalk u w walk × (k ≡ told (Yes (ms ++ (walk ++ inverse_list ns)))))
      (λ k. (a b : Side) × (ts : List Tuple) × IsSideOf s a × IsSideOf t b × IsLevel u (plains ts) × (k ≡ told (NoLevel a b ts)))
      (λ there off. off there)
      (λ k l _ one other. one.2 ∙ ap (λ walk. told (Yes (ms ++ (walk ++ inverse_list ns)))) (first_walk_unique u w one.0 other.0 one.1 other.1) ∙ sym other.2)
      (λ k l _. no_level_one is low js just k l)
      o p)
      r q)
      z v)
      x y)

-- ---- the cases
-- The traces of two tuples.
record Traces (s t : TupleData) (ms ns : List Move) (u w : TupleData) : Type 0 where
  first_tuple : IsTuple s
  first_low : s.rank ≤ 26
  second_tuple : IsTuple t
  second_low : t.rank ≤ 26
  first : IsCapacityTrace s ms u
  second : IsCapacityTrace t ns w

-- The traces of two tuples are these.
record AreThese (ms ns ks ls : List Move) (u w x y : TupleData) : Type 0 where
  first_moves : ks ≡ ms
  first_end : x ≡ u
  second_moves : ls ≡ ns
  second_end : y ≡ w

these : (s t u w x y : TupleData) (ms ns ks ls : List Move) → Traces s t ms ns u w → IsCapacityTrace s ks x → IsCapacityTrace t ls y → AreThese ms ns ks ls u w x y
these s t u w x y ms ns ks ls h i j =
    let one = trace_one s x u ks ms h.first_tuple h.first_low i h.first in
    let two = trace_one t y w ls ns h.second_tuple h.second_low j h.second in
    record { first_moves = one.0; first_end = one.1; second_moves = two.0; second_end = two.1 }

-- They end at these tuples, which are apart.
ends : (s t u w x y : TupleData) (ms ns ks ls : List Move) → Traces s t ms ns u w → EndApart s t ks ls x y → AreThese ms ns ks ls u w x y × (tuple_length u ≡ tuple_length w) × (u ≢ w)
ends s t u w x y ms ns ks ls h apart =
    let e = these s t u w x y ms ns ks ls h apart.first apart.second in (
      e,
      sym (ap tuple_length e.first_end) ∙ apart.level ∙ ap tuple_length e.second_end,
      (λ one. apart.apart (e.first_end ∙ one ∙ sym e.second_end)),
    )

is_told : (limit : ℕ) (s t u w : TupleData) (ms ns : List Move) (v : Verdict) → Traces s t ms ns u w → Decides limit s t v → IsTold limit s t u w ms ns (told v)
is_told limit s t u w ms ns v h (other_lengths {first = a} {second = b} i j differ) =
    let one = trace_one s a.end.plain u a.trace ms h.first_tuple h.first_low i.trace h.first in
    let two = trace_one t b.end.plain w b.trace ns h.second_tuple h.second_low j.trace h.second in
    inl ((λ e. differ (ap tuple_length one.1 ∙ e ∙ sym (ap tuple_length two.1))), (a, b, i, j, refl))
is_told limit s t u w ms ns v h (one_end {ms = ks} {ns = ls} {u = x} i j) =
    let e = these s t u w x x ms ns ks ls h i j in
    let one : u ≡ w = sym e.first_end ∙ e.second_end in
    inr (ap tuple_length one, inl (one, ap₂ (λ fs gs. told (Yes (fs ++ inverse_list gs))) e.first_moves e.second_moves))
is_told limit s t u w ms ns v h (too_long {ms = ks} {ns = ls} {u = x} {v = y} apart long) =
    let e = ends s t u w x y ms ns ks ls h apart in
    let same : tuple_length x ≡ tuple_length u = ap tuple_length e.0.first_end in
    inr (e.1, inr (e.2, inl (omega (arith, long, same), ap (λ n. told (Undecided (Length n))) same)))
is_told limit s t u w ms ns v h (too_many {ms = ks} {ns = ls} {u = x} {v = y} apart low more) =
    let e = ends s t u w x y ms ns ks ls h apart in
    inr (e.1, inr (e.2, inr (omega (arith, low, ap tuple_length e.0.first_end), inl (subst (λ k. HasMoreThan k limit) e.0.first_end more, refl))))
is_told limit s t u w ms ns v h (joined {ms = ks} {ns = ls} {walk = walk} {u = x} {v = y} {ts = ts} apart low level few first) =
    let e = ends s t u w x y ms ns ks ls h apart in
    let walked : IsFirstWalk u w walk = subst (λ k. IsFirstWalk u k walk) e.0.second_end (subst (λ k. IsFirstWalk k y walk) e.0.first_end first) in
    inr (
      e.1,
      inr (
        e.2,
        inr (
          omega (arith, low, ap tuple_length e.0.first_end),
          inr (
            (ts, subst (λ k. IsLevel k ts) e.0.first_end level, few),
            inl ((walk, walked.leads), (walk, walked, ap₂ (λ fs gs. told (Yes (fs ++ (walk ++ inverse_list gs)))) e.0.first_moves e.0.second_moves)),
          ),
        ),
      ),
    )
is_told limit s t u w ms ns v h (off_level {first = a} {second = b} {level = ts} i j apart low level few off) =
    let e = ends s t u w a.end.plain b.end.plain ms ns a.trace b.trace h apart in
    let whole : IsLevel u (plains ts) = subst (λ k. IsLevel k (plains ts)) e.0.first_end level in
    inr (
      e.1,
      inr (
        e.2,
        inr (
          omega (arith, low, ap tuple_length e.0.first_end),
          inr (
            (plains ts, whole, omega (arith, few, length-map ts (λ (t : Tuple). t.plain))),
            inr ((λ reached. off (subst (λ k. InLevel a.end.plain k) (sym e.0.second_end) (subst (λ k. InLevel k w) (sym e.0.first_end) reached))), (a, b, ts, i, j, whole, refl)),
          ),
        ),
      ),
    )

-- The traces of the two tuples of a verdict.
traces_of : (limit : ℕ) (s t : TupleData) (v : Verdict) → IsTuple s → s.rank ≤ 26 → IsTuple t → t.rank ≤ 26 → Decides limit s t v → (ms ns : List Move) × (u w : TupleData) × Traces s t ms ns u w
traces_of limit s t v is low js just (other_lengths {first = a} {second = b} i j differ) = (a.trace, b.trace, a.end.plain, b.end.plain, record { first_tuple = is; first_low = low; second_tuple = js; second_low = just; first = i.trace; second = j.trace })
traces_of limit s t v is low js just (one_end {ms = ks} {ns = ls} {u = x} i j) = (ks, ls, x, x, record { first_tuple = is; first_low = low; second_tuple = js; second_low = just; first = i; second = j })
traces_of limit s t v is low js just (too_long {ms = ks} {ns = ls} {u = x} {v = y} apart long) = (ks, ls, x, y, record { first_tuple = is; first_low = low; second_tuple = js; second_low = just; first = apart.first; second = apart.second })
traces_of limit s t v is low js just (too_many {ms = ks} {ns = ls} {u = x} {v = y} apart small more) = (ks, ls, x, y, record { first_tuple = is; first_low = low; second_tuple = js; second_low = just; first = apart.first; second = apart.second })
traces_of limit s t v is low js just (joined {ms = ks} {ns = ls} {walk = walk} {u = x} {v = y} {ts = ts} apart small level few first) =
    (ks, ls, x, y, record { first_tuple = is; first_low = low; second_tuple = js; second_low = just; first = apart.first; second = apart.second })
traces_of limit s t v is low js just (off_level {first = a} {second = b} {level = ts} i j apart small level few off) =
    (a.trace, b.trace, a.end.plain, b.end.plain, record { first_tuple = is; first_low = low; second_tuple = js; second_low = just; first = i.trace; second = j.trace })

verdict_one : (limit : ℕ) (s t : TupleData) (a b : Verdict) → IsTuple s → s.rank ≤ 26 → IsTuple t → t.rank ≤ 26 → Decides limit s t a → Decides limit s t b → told a ≡ told b
verdict_one limit s t a b is low js just i j =
    let (ms, ns, u, w, h) = traces_of limit s t a is low js just i in
    told_once limit s t u w ms ns is low js just (told a) (told b) (is_told limit s t u w ms ns a h i) (is_told limit s t u w ms ns b h j)

-- ---- the answer
-- The texts of answers for these tuples and these rows.
reduce_text : TupleData → List Row → List ℕ
reduce_text t rows = rows_text (heading_row commands.Reduce ∷ number_row (codes "rank") t.rank ∷ words_row (codes "tuple") t.words ∷ rows ++ done_row ∷ [])

decide_text : TupleData → TupleData → List Row → List ℕ
decide_text s t rows = rows_text (heading_row commands.Decide ∷ number_row (codes "rank") s.rank ∷ words_row (codes "first") s.words ∷ words_row (codes "second") t.words ∷ rows ++ done_row ∷ [])

stab_text : TupleData → List Row → List ℕ
stab_text t rows = rows_text (heading_row commands.Stabiliser ∷ number_row (codes "rank") t.rank ∷ words_row (codes "tuple") t.words ∷ rows ++ done_row ∷ [])

pub answer_one : AnswerIsUnique
unfolding answer_text reduce_text decide_text stab_text
answer_one limit (reduce t) (answers.Reduce u a) (answers.Reduce v b) is i j = ((λ _. ap₂ reduce_text (i.0 ∙ sym j.0) (side_one t a b is.0 is.2 i.1 j.1)), refl)
answer_one limit (reduce t) (answers.Reduce u a) (answers.Decide x y v) is i j = absurd j
answer_one limit (reduce t) (answers.Reduce u a) (answers.Straighten x g ms e) is i j = absurd j
answer_one limit (reduce t) (answers.Reduce u a) (answers.Stabiliser x v) is i j = absurd j
answer_one limit (reduce t) (answers.Decide x y v) b is i j = absurd i
answer_one limit (reduce t) (answers.Straighten x g ms e) b is i j = absurd i
answer_one limit (reduce t) (answers.Stabiliser x v) b is i j = absurd i
answer_one limit (decide s t) (answers.Reduce u a) b is i j = absurd i
answer_one limit (decide s t) (answers.Straighten x g ms e) b is i j = absurd i
answer_one limit (decide s t) (answers.Stabiliser x v) b is i j = absurd i
answer_one limit (decide s t) (answers.Decide x y v) (answers.Reduce u a) is i j = absurd j
answer_one limit (decide s t) (answers.Decide x y v) (answers.Straighten p g ms e) is i j = absurd j
answer_one limit (decide s t) (answers.Decide x y v) (answers.Stabiliser p w) is i j = absurd j
answer_one limit (decide s t) (answers.Decide x y v) (answers.Decide p q r) is i j =
    let one : told v ≡ told r = verdict_one limit s t v r is.0 (omega (arith, is.4)) is.1 (omega (arith, is.2, is.4)) i.2.0 j.2.0 in (
      (λ _. ap₂ (λ a b. decide_text a b (rows_told (verdict_of v))) (i.0 ∙ sym j.0) (i.1 ∙ sym j.1) ∙ ap (λ (k : Told). decide_text p.plain q.plain k.0) one),
      ap (λ (k : Told). k.1) one,
    )
answer_one limit (straighten t list) (answers.Reduce u a) b is i j = absurd i
answer_one limit (straighten t list) (answers.Decide x y v) b is i j = absurd i
answer_one limit (straighten t list) (answers.Straighten x g ms e) (answers.Reduce u a) is i j = absurd j
answer_one limit (straighten t list) (answers.Straighten x g ms e) (answers.Decide p q r) is i j = absurd j
answer_one limit (straighten t list) (answers.Straighten x g ms e) (answers.Straighten y h ns f) is i j = ((λ one. absurd one), refl)
answer_one limit (straighten t list) (answers.Straighten x g ms e) (answers.Stabiliser y w) is i j = absurd j
answer_one limit (straighten t list) (answers.Stabiliser x v) b is i j = absurd i
answer_one limit (stabiliser t) (answers.Reduce u a) b is i j = absurd i
answer_one limit (stabiliser t) (answers.Decide x y v) b is i j = absurd i
answer_one limit (stabiliser t) (answers.Straighten x g ms e) b is i j = absurd i
answer_one limit (stabiliser t) (answers.Stabiliser x v) (answers.Reduce u a) is i j = absurd j
answer_one limit (stabiliser t) (answers.Stabiliser x v) (answers.Decide y z w) is i j = absurd j
answer_one limit (stabiliser t) (answers.Stabiliser x v) (answers.Straighten y g ms e) is i j = absurd j
answer_one limit (stabiliser t) (answers.Stabiliser x v) (answers.Stabiliser y w) is i j =
    let one : stab_told v ≡ stab_told w = stab_one limit t v w is.0 (omega (arith, is.2)) i.1 j.1 in (
      (λ _. ap₂ stab_text (i.0 ∙ sym j.0) (ap (λ (k : Told). k.0) one)),
      ap (λ (k : Told). k.1) one,
    )
