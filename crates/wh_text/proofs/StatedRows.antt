-- What a problem states is read exactly from rows that tell it: for the laws on whole texts.
use Rattle.std.proofs.Common.{◌≡◌, ℕ, ◌≤◌, ltb, Bool, true, false, cond, List, [], ◌∷◌, length, map, sym, ap, ◌∙◌, refl, subst, arith, None, Some, Result, Ok, Err}
use Rattle.std.specs.Prelude.{◌&&◌, codes}
use Rattle.std.specs.declared.option.Option.{Option}
use Rattle.std.proofs.lemmas.Bool.{cond-true, cond-false}
use Rattle.std.proofs.lemmas.List.{length-map}
use Rattle.wh_words.specs.Tuples.{TupleData}
use Rattle.wh_words.specs.Moves.{Move}
use Rattle.wh_lines.specs.declared.read_error.ReadError.{ReadError}
use Rattle.wh_lines.specs.declared.read_error.ReadError.TheVariants as errors
use Rattle.wh_lines.specs.Lines.{Field, are}
use Rattle.wh_lines.specs.Readings.{◌>>=◌}
use Rattle.wh_lines.specs.KeptLines.{Kept, Rest}
use Rattle.wh_lines.specs.KeptLines.Rest.{line, bad_byte, end}
use Rattle.wh_lines.specs.Rows.{Row}
use Rattle.wh_lines.proofs.Equations.{bind_ok, ok_is, ok_same, unless_ok, if_ok, not_more, is_not_more, both_true, are_is, are_back}
use Rattle.wh_lines.proofs.FieldLaws.{AreSome}
use Rattle.wh_lines.proofs.RowReadings.{Tells}
use Rattle.wh_lines.proofs.RestRows.{Holds, AllSome, kept_row}
use Rattle.wh_fields.specs.TupleFields.{tuple_at}
use Rattle.wh_fields.specs.MoveFields.{moves_at}
use Rattle.wh_fields.proofs.TupleLaws.{Spell, tuple_is, tuple_back}
use Rattle.wh_data.specs.Limits.{most_given_moves}
use Rattle.wh_fields.specs.Laws.{AreMoveFields}
use Rattle.wh_text.specs.Problems.{tuple_line, given_moves, nothing_left, last_moves, has_moves, Stated, with_tuple, stated}
use Rattle.wh_text.proofs.ExactLines.{moves_are, moves_back}

-- ---- tuples
-- the fields of a row spell a tuple
pub record IsTupleRow (n : ℕ) (r : Row) (t : TupleData) : Type 0 where
  pub keyword : r.keyword ≡ codes "tuple"
  pub spelled : (fs : List Field) → map (λ f. f.bytes) fs ≡ r.fields → Spell n fs t

respell : (n : ℕ) (fs gs : List Field) (t : TupleData) → map (λ f. f.bytes) gs ≡ map (λ f. f.bytes) fs → Spell n fs t → Spell n gs t
respell n fs gs t e s = record { written = s.written; spelled = e ∙ s.spelled; of_rank = s.of_rank; few = s.few; short = s.short; cyclic = s.cyclic }

-- the row of a line
abbrev row_of : Kept → Row
row_of k = record { keyword = k.keyword; fields = map (λ f. f.bytes) k.fields }

tuple_told : (n : ℕ) (k : Kept) (t : TupleData) → n ≤ 26 → AreSome k.fields → tuple_line n k ≡ Ok t → IsTupleRow n (row_of k) t
tuple_told n k t h some e =
    let p = if_ok (are k.keyword (codes "tuple")) (errors.BadLine k.number) (tuple_at n k.number k.fields) t e in
    record { keyword = are_is k.keyword (codes "tuple") p.0; spelled = λ fs same. respell n k.fields fs t same (tuple_is n k.number k.fields t h some p.1) }

tuple_again : (n : ℕ) (r : Row) (k : Kept) (t : TupleData) → n ≤ 26 → Tells r k → IsTupleRow n r t → tuple_line n k ≡ Ok t
tuple_again n r k t h tells is =
    cond-true (are k.keyword (codes "tuple")) (tuple_at n k.number k.fields) (Err (errors.BadLine k.number)) (are_back k.keyword (codes "tuple") (tells.keyword ∙ is.keyword))
    ∙ tuple_back n k.number k.fields t h tells.some (is.spelled k.fields tells.same)

-- ---- moves
-- the fields of a row spell moves that aren't too many
pub record IsGivenRow (n : ℕ) (r : Row) (ms : List Move) : Type 0 where
  pub keyword : r.keyword ≡ codes "moves"
  pub few : length r.fields ≤ most_given_moves
  pub told : AreMoveFields n r.fields ms

given_told : (n : ℕ) (k : Kept) (ms : List Move) → n ≤ 26 → k.keyword ≡ codes "moves" → given_moves n k ≡ Ok ms → IsGivenRow n (row_of k) ms
given_told n k ms h is e =
    let p = unless_ok (ltb most_given_moves (length k.fields)) (errors.TooManyMoves k.number (length k.fields)) (moves_at n k.number k.fields) ms e in
    record { keyword = is; few = omega (arith, length-map k.fields (λ f. f.bytes), not_more most_given_moves (length k.fields) p.0); told = moves_are n k.number k.fields ms h p.1 }

given_again : (n : ℕ) (r : Row) (k : Kept) (ms : List Move) → n ≤ 26 → Tells r k → IsGivenRow n r ms → given_moves n k ≡ Ok ms
given_again n r k ms h tells is =
    let few : length k.fields ≤ most_given_moves = omega (arith, length-map k.fields (λ f. f.bytes), ap length tells.same, is.few) in
    cond-false (ltb most_given_moves (length k.fields)) (Err (errors.TooManyMoves k.number (length k.fields))) (moves_at n k.number k.fields) (is_not_more most_given_moves (length k.fields) few)
    ∙ moves_back n k.number k.fields ms h (subst (λ (fs : List (List ℕ)). AreMoveFields n fs ms) (sym tells.same) is.told)

nothing_held : (r : Rest) (u : Unit {0}) → nothing_left r ≡ Ok u → Holds r []
nothing_held (line k later) u e = absurd (cc)
nothing_held (bad_byte l c) u e = absurd (cc)
nothing_held (end l) u e = tt

nothing_again : (r : Rest) → Holds r [] → nothing_left r ≡ Ok tt
nothing_again (line k later) h = absurd h
nothing_again (bad_byte l c) h = absurd h
nothing_again (end l) h = refl

last_told : (n : ℕ) (k : Kept) (later : Rest) (ms : List Move) → n ≤ 26 → k.keyword ≡ codes "moves" → last_moves n k later ≡ Ok ms → IsGivenRow n (row_of k) ms × Holds later []
last_told n k later ms h is e =
    let p = bind_ok (given_moves n k) (λ ms. nothing_left later >>= λ none. Ok ms) ms e in
    let q = bind_ok (nothing_left later) (λ none. Ok p.0) ms p.2 in
    (given_told n k ms h is (p.1 ∙ ap (λ v. Ok v) (ok_is p.0 ms q.2)), nothing_held later q.0 q.1)

last_again : (n : ℕ) (r : Row) (k : Kept) (later : Rest) (ms : List Move) → n ≤ 26 → Tells r k → IsGivenRow n r ms → Holds later [] → last_moves n k later ≡ Ok ms
last_again n r k later ms h tells is none =
    ap (λ r. r >>= λ ms. nothing_left later >>= λ none. Ok ms) (given_again n r k ms h tells is) ∙ ap (λ r. r >>= λ (u : Unit {0}). Ok ms) (nothing_again later none)

-- ---- what is stated
-- the moves that are stated, where there are
abbrev pub moves_told : Result (List Move) ReadError → Option (List Move)
moves_told (Ok ms) = Some ms
moves_told (Err e) = None

pub told_moves : (found : Result (List Move) ReadError) (ms : List Move) → moves_told found ≡ Some ms → found ≡ Ok ms
told_moves (Ok ns) ms e = let same : ns ≡ ms = (cc) in ap (λ v. Ok v) same
told_moves (Err d) ms e = absurd (cc)

-- each of these rows tells the tuple of its place, and the last perhaps the moves
pub data StatedRows (takes : Bool) (n : ℕ) : List Row → List TupleData → Option (List Move) → Type 0 where
  none : StatedRows takes n [] [] None
  last : (r : Row) (ms : List Move) → takes ≡ true → IsGivenRow n r ms → StatedRows takes n (r ∷ []) [] (Some ms)
  more : (r : Row) (t : TupleData) {rows : List Row} {ts : List TupleData} {moves : Option (List Move)} → IsTupleRow n r t → StatedRows takes n rows ts moves → StatedRows takes n (r ∷ rows) (t ∷ ts) moves

abbrev AreStated : Bool → ℕ → List Row → Stated → Type 0
AreStated takes n rows s = StatedRows takes n rows s.tuples (moves_told s.moves)

abbrev with_moves : ℕ → Kept → Rest → Result Stated ReadError
with_moves n k later = last_moves n k later >>= λ ms. Ok (record { tuples = []; moves = Ok ms })

abbrev with_more : Bool → ℕ → Kept → Rest → Result Stated ReadError
with_more takes n k later = tuple_line n k >>= λ t. stated takes n later >>= λ s. Ok (with_tuple t s)

pub stated_told : (takes : Bool) (n : ℕ) (r : Rest) (s : Stated) → n ≤ 26 → AllSome r → stated takes n r ≡ Ok s → (rows : List Row) × Holds r rows × AreStated takes n rows s
unfolding stated
stated_told takes n (line k later) s h some e = by (has_moves takes k) (λ x same. stated_told takes n later x h some.1 same) refl e
  where
    by : (t : Bool) → ((x : Stated) → stated takes n later ≡ Ok x → (rows : List Row) × Holds later rows × AreStated takes n rows x) → has_moves takes k ≡ t → cond t (with_moves n k later) (with_more takes n k later) ≡ Ok s → (rows : List Row) × Holds (line k later) rows × AreStated takes n rows s
    by true rest is e =
        let a = both_true takes (are k.keyword (codes "moves")) is in
        let p = bind_ok (last_moves n k later) (λ ms. Ok (record { tuples = []; moves = Ok ms })) s e in
        let told = last_told n k later p.0 h (are_is k.keyword (codes "moves") a.1) p.1 in
        (row_of k ∷ [], (kept_row k some.0, told.1), ok_same (AreStated takes n (row_of k ∷ [])) (record { tuples = []; moves = Ok p.0 }) s p.2 (last (row_of k) p.0 a.0 told.0))
    by false rest is e =
        let p = bind_ok (tuple_line n k) (λ t. stated takes n later >>= λ s. Ok (with_tuple t s)) s e in
        let q = bind_ok (stated takes n later) (λ s. Ok (with_tuple p.0 s)) s p.2 in
        let rows = rest q.0 q.1 in
        (row_of k ∷ rows.0, (kept_row k some.0, rows.1), ok_same (AreStated takes n (row_of k ∷ rows.0)) (with_tuple p.0 q.0) s q.2 (more (row_of k) p.0 (tuple_told n k p.0 h some.0 p.1) rows.2))
stated_told takes n (bad_byte l c) s h some e = absurd (cc)
stated_told takes n (end l) s h some e = ([], tt, ok_same (AreStated takes n []) (record { tuples = []; moves = Err (errors.BadLine l) }) s e none)

-- what is read of such rows: these tuples, and these moves or a refusal of a text without them
pub record ReadStated (takes : Bool) (n : ℕ) (r : Rest) (ts : List TupleData) (moves : Option (List Move)) : Type 0 where
  pub found : Result (List Move) ReadError
  pub read : stated takes n r ≡ Ok (record { tuples = ts; moves = found })
  pub same : moves_told found ≡ moves

no_moves : (takes : Bool) (w : List ℕ) → w ≡ codes "tuple" → (takes && are w (codes "moves")) ≡ false
no_moves true w e = ap (λ v. are v (codes "moves")) e
no_moves false w e = refl

tuple_first : (takes : Bool) (n : ℕ) (r : Row) (k : Kept) (later : Rest) (t : TupleData) (ts : List TupleData) (moves : Option (List Move)) → n ≤ 26 → Tells r k → IsTupleRow n r t → ReadStated takes n later ts moves → ReadStated takes n (line k later) (t ∷ ts) moves
unfolding stated
tuple_first takes n r k later t ts moves h tells is rest = record {
  found = rest.found;
  read = cond-false (has_moves takes k) (with_moves n k later) (with_more takes n k later) (no_moves takes k.keyword (tells.keyword ∙ is.keyword))
      ∙ ap (λ r. r >>= λ t. stated takes n later >>= λ s. Ok (with_tuple t s)) (tuple_again n r k t h tells is)
      ∙ ap (λ r. r >>= λ s. Ok (with_tuple t s)) rest.read;
  same = rest.same;
}

moves_alone : (takes : Bool) (n : ℕ) (r : Row) (k : Kept) (later : Rest) (ms : List Move) → n ≤ 26 → takes ≡ true → Tells r k → IsGivenRow n r ms → Holds later [] → ReadStated takes n (line k later) [] (Some ms)
unfolding stated
moves_alone takes n r k later ms h taken tells is alone = record {
  found = Ok ms;
  read = cond-true (has_moves takes k) (with_moves n k later) (with_more takes n k later) (ap (λ t. t && are k.keyword (codes "moves")) taken ∙ are_back k.keyword (codes "moves") (tells.keyword ∙ is.keyword))
      ∙ ap (λ r. r >>= λ ms. Ok (record { tuples = []; moves = Ok ms })) (last_again n r k later ms h tells is alone);
  same = refl;
}

pub stated_again : (takes : Bool) (n : ℕ) (r : Rest) (rows : List Row) (ts : List TupleData) (moves : Option (List Move)) → n ≤ 26 → Holds r rows → StatedRows takes n rows ts moves → ReadStated takes n r ts moves
unfolding stated
stated_again takes n (line k later) rows ts moves h holds none = absurd holds
stated_again takes n (line k later) rows ts moves h holds (last r ms taken is) = moves_alone takes n r k later ms h taken holds.0 is holds.1
stated_again takes n (line k later) rows ts moves h holds (more r t {rows = others} {ts = us} {moves = given} is rest) =
    tuple_first takes n r k later t us given h holds.0 is (stated_again takes n later others us given h holds.1 rest)
stated_again takes n (bad_byte l c) rows ts moves h holds s = absurd holds
stated_again takes n (end l) rows ts moves h holds none = record { found = Err (errors.BadLine l); read = refl; same = refl }
stated_again takes n (end l) rows ts moves h holds (last r ms taken is) = absurd holds
stated_again takes n (end l) rows ts moves h holds (more r t is rest) = absurd holds
