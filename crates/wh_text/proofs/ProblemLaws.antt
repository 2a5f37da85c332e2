-- A problem is read exactly from a text that states it: for the laws on whole texts.
use Rattle.std.proofs.Common.{◌≡◌, ℕ, ◌≤◌, ltb, ◌==◌, Bool, true, false, List, [], ◌∷◌, length, map, sym, ap, ◌∙◌, refl, subst, arith, None, Some, Result, Ok, Err}
use Rattle.std.specs.Prelude.{codes, decimal}
use Rattle.std.specs.declared.option.Option.{Option}
use Rattle.std.proofs.lemmas.Bool.{cond-true, cond-false, eqb-true}
use Rattle.wh_words.specs.Tuples.{TupleData}
use Rattle.wh_words.specs.Moves.{Move}
use Rattle.wh_lines.specs.declared.read_error.ReadError.{ReadError}
use Rattle.wh_lines.specs.declared.read_error.ReadError.TheVariants as errors
use Rattle.wh_lines.specs.Lines.{lines}
use Rattle.wh_lines.specs.Readings.{◌>>=◌, refused_as}
use Rattle.wh_lines.specs.KeptLines.{Kept, Rest, rest}
use Rattle.wh_lines.specs.KeptLines.Rest.{line, bad_byte, end}
use Rattle.wh_lines.specs.LineReadings.{Reading, start, line_after}
use Rattle.wh_lines.specs.Laws.{field_texts, kept_lines, texts_of}
use Rattle.wh_lines.proofs.Equations.{bind_ok, ok_is, unless_ok, if_ok, not_more, is_not_more, refused_ok}
use Rattle.wh_lines.proofs.Scanning.{eq_true}
use Rattle.wh_lines.proofs.NextLines.{behind, line_told, line_there}
use Rattle.wh_lines.specs.Rows.{Row, number_row}
use Rattle.wh_lines.proofs.RowReadings.{Tells, columns, columns_are}
use Rattle.wh_lines.proofs.RestRows.{Holds, AllSome, HaveRows, holds_is, holds_back, rest_all_some}
use Rattle.wh_fields.specs.Words.{word_text}
use Rattle.wh_data.specs.declared.command.Command.{Command}
use Rattle.wh_data.specs.declared.command.Command.TheVariants as commands
use Rattle.wh_text.specs.RankLines.{greatest_rank, rank_at, no_rank, rank_after}
use Rattle.wh_data.specs.ProblemData.{ProblemData}
use Rattle.wh_data.specs.ProblemData.ProblemData.{reduce, decide, straighten, stabiliser}
use Rattle.wh_text.specs.Problems.{Stated, stated, takes_moves, one_tuple, two_tuples, decide_both, problem_with, problem_after, problem}
use Rattle.wh_data.specs.Limits.{most_problem_bytes}
use Rattle.wh_text.specs.Laws.{IsRankLine, IsTupleLine, IsMovesLine, IsTupleText, IsDecideText, IsStraightenText, ReadsReduceTexts, ReadsDecideTexts, ReadsStraightenTexts, ReadsStabiliserTexts}
use Rattle.wh_text.proofs.RankLaws.{rank_within, rank_is, rank_back}
use Rattle.wh_text.proofs.StatedRows.{IsTupleRow, IsGivenRow, moves_told, told_moves, StatedRows, stated_told, stated_again}
use Rattle.wh_text.proofs.StatedRows.StatedRows.{none, last, more}

-- ---- the text
-- the rows of a text that states a problem
record TellProblem (command : Command) (bytes : List ℕ) (n : ℕ) (ts : List TupleData) (moves : Option (List Move)) : Type 0 where
  rows : List Row
  have : HaveRows (lines bytes) (number_row (codes "rank") n ∷ rows)
  least : 1 ≤ n
  greatest : n ≤ greatest_rank command
  stated : StatedRows (takes_moves command) n rows ts moves

text_is : (command : Command) (bytes : List ℕ) (p : ProblemData) → problem command bytes ≡ Ok p →
    (length bytes ≤ most_problem_bytes) × (n : ℕ) × (s : Stated) × TellProblem command bytes n s.tuples (moves_told s.moves) × (problem_with command s ≡ Ok p)
unfolding problem problem_after rank_after
text_is command bytes p e =
    let at : Reading = start bytes in
    let size = unless_ok (ltb most_problem_bytes (length bytes)) (errors.InputTooLong most_problem_bytes) (problem_after command at) p e in
    let takes = takes_moves command in
    let a = bind_ok (rank_after command at) (λ n. stated takes n.0 n.1.rest >>= λ s. problem_with command s) p size.1 in
    let b = bind_ok (stated takes a.0.0 a.0.1.rest) (λ s. problem_with command s) p a.2 in
    let next : Kept × Reading → Result (ℕ × Reading) ReadError = λ k. rank_at command k.0.number k.0.fields >>= λ n. Ok (n, k.1) in
    let c = bind_ok (refused_as no_rank (line_after (codes "rank") at)) next a.0 a.1 in
    let line_is = line_told (codes "rank") at c.0 (refused_ok no_rank (line_after (codes "rank") at) c.0 c.1) in
    let d = bind_ok (rank_at command c.0.0.number c.0.0.fields) (λ n. Ok (n, c.0.1)) a.0 c.2 in
    let n : d.0 ≡ a.0.0 = ap (λ (x : ℕ × Reading). x.0) (ok_is (d.0, c.0.1) a.0 d.2) in
    let later : c.0.1.rest ≡ a.0.1.rest = ap (λ (x : ℕ × Reading). x.1.rest) (ok_is (d.0, c.0.1) a.0 d.2) in
    let rank = rank_is command c.0.0.number d.0 c.0.0.fields d.1 in
    let some : AllSome (line c.0.0 a.0.1.rest) = subst AllSome (line_is.0 ∙ ap (λ r. line c.0.0 r) later) (rest_all_some 1 (lines bytes)) in
    let few : a.0.0 ≤ 26 = omega (arith, n, rank.2, rank_within command) in
    let told = stated_told takes a.0.0 a.0.1.rest b.0 few some.1 b.1 in
    let first : Tells (number_row (codes "rank") a.0.0) c.0.0 = record { keyword = line_is.2; some = some.0; same = rank.0 ∙ ap (λ m. decimal m ∷ []) n } in
    let holds : Holds (rest 1 (lines bytes)) (number_row (codes "rank") a.0.0 ∷ told.0) =
    subst (λ (r : Rest). Holds r (number_row (codes "rank") a.0.0 ∷ told.0)) (sym (line_is.0 ∙ ap (λ r. line c.0.0 r) later)) (first, told.1) in (
      not_more most_problem_bytes (length bytes) size.0,
      a.0.0,
      b.0,
      record { rows = told.0; have = holds_is 1 (lines bytes) (number_row (codes "rank") a.0.0 ∷ told.0) holds; least = omega (arith, n, rank.1); greatest = omega (arith, n, rank.2); stated = told.2 },
      b.2,
    )

rest_after : (r : Rest) (row : Row) (rows : List Row) → Holds r (row ∷ rows) → (k : Kept) × (later : Rest) × (r ≡ line k later) × Tells row k × Holds later rows
rest_after (line k later) row rows h = (k, later, refl, h.0, h.1)
rest_after (bad_byte l c) row rows h = absurd h
rest_after (end l) row rows h = absurd h

text_back : (command : Command) (bytes : List ℕ) (p : ProblemData) (n : ℕ) (ts : List TupleData) (moves : Option (List Move)) → length bytes ≤ most_problem_bytes → TellProblem command bytes n ts moves →
    ((found : Result (List Move) ReadError) → moves_told found ≡ moves → problem_with command (record { tuples = ts; moves = found }) ≡ Ok p) → problem command bytes ≡ Ok p
unfolding problem problem_after rank_after
text_back command bytes p n ts moves h x e =
    let at : Reading = start bytes in
    let row = number_row (codes "rank") n in
    let a = rest_after (rest 1 (lines bytes)) row x.rows (holds_back 1 (lines bytes) (row ∷ x.rows) x.have) in
    let few : n ≤ 26 = omega (arith, x.greatest, rank_within command) in
    let next : Kept × Reading → Result (ℕ × Reading) ReadError = λ k. rank_at command k.0.number k.0.fields >>= λ n. Ok (n, k.1) in
    let placed : ℕ → Result (ℕ × Reading) ReadError = λ n. Ok (n, behind at a.0 a.1) in
    let takes = takes_moves command in
    let later : ℕ × Reading → Result ProblemData ReadError = λ n. stated takes n.0 n.1.rest >>= λ s. problem_with command s in
    let again = stated_again takes n a.1 x.rows ts moves few a.4 x.stated in
    cond-false (ltb most_problem_bytes (length bytes)) (Err (errors.InputTooLong most_problem_bytes)) (problem_after command at) (is_not_more most_problem_bytes (length bytes) h)
    ∙ ap (λ r. refused_as no_rank r >>= next >>= later) (line_there (codes "rank") at a.0 a.1 a.2 a.3.keyword)
    ∙ ap (λ r. r >>= placed >>= later) (rank_back command a.0.number n a.0.fields a.3.same x.least x.greatest)
    ∙ ap (λ r. r >>= λ s. problem_with command s) again.read
    ∙ e again.found again.same

-- ---- lines and rows
-- a line of these texts
line_row : (n : ℕ) (bytes : List ℕ) (r : Row) (t : TupleData) → field_texts bytes ≡ texts_of r → IsTupleRow n r t → IsTupleLine n bytes t
line_row n bytes r t e is =
    let s = is.spelled (columns r.fields) (columns_are r.fields) in
    record {
      written = s.written;
      spelled = e ∙ ap (λ w. w ∷ r.fields) is.keyword ∙ ap (λ ws. codes "tuple" ∷ ws) (sym (columns_are r.fields) ∙ s.spelled);
      of_rank = s.of_rank;
      few = s.few;
      short = s.short;
      cyclic = s.cyclic;
    }

-- the row of a line of a tuple
tuple_row : (n : ℕ) (bytes : List ℕ) (t : TupleData) → IsTupleLine n bytes t → Row
tuple_row n bytes t is = record { keyword = codes "tuple"; fields = map word_text is.written }

row_line : (n : ℕ) (bytes : List ℕ) (t : TupleData) (is : IsTupleLine n bytes t) → IsTupleRow n (tuple_row n bytes t is) t
unfolding tuple_row
row_line n bytes t is = record {
  keyword = refl;
  spelled = λ fs e. record { written = is.written; spelled = e; of_rank = is.of_rank; few = is.few; short = is.short; cyclic = is.cyclic };
}

row_texts : (n : ℕ) (bytes : List ℕ) (t : TupleData) (is : IsTupleLine n bytes t) → field_texts bytes ≡ texts_of (tuple_row n bytes t is)
unfolding tuple_row
row_texts n bytes t is = is.spelled

-- lines with the texts of two rows, or of three
two_lines : (ls : List (List ℕ)) (a b : List (List ℕ)) → map field_texts ls ≡ a ∷ b ∷ [] → (x : List ℕ) × (y : List ℕ) × (ls ≡ x ∷ y ∷ []) × (field_texts x ≡ a) × (field_texts y ≡ b)
two_lines [] a b e = absurd (cc)
two_lines (x ∷ []) a b e = absurd (cc)
two_lines (x ∷ y ∷ []) a b e = (x, y, refl, (cc), (cc))
two_lines (x ∷ y ∷ z ∷ ls) a b e = absurd (cc)

three_lines : (ls : List (List ℕ)) (a b c : List (List ℕ)) → map field_texts ls ≡ a ∷ b ∷ c ∷ [] →
    (x : List ℕ) × (y : List ℕ) × (z : List ℕ) × (ls ≡ x ∷ y ∷ z ∷ []) × (field_texts x ≡ a) × (field_texts y ≡ b) × (field_texts z ≡ c)
three_lines [] a b c e = absurd (cc)
three_lines (x ∷ []) a b c e = absurd (cc)
three_lines (x ∷ y ∷ []) a b c e = absurd (cc)
three_lines (x ∷ y ∷ z ∷ []) a b c e = (x, y, z, refl, (cc), (cc), (cc))
three_lines (x ∷ y ∷ z ∷ w ∷ ls) a b c e = absurd (cc)

-- ---- one tuple
one_is : (ts : List TupleData) (t : TupleData) → one_tuple ts ≡ Ok t → ts ≡ t ∷ []
one_is [] t e = absurd (cc)
one_is (u ∷ []) t e = ap (λ v. v ∷ []) (ok_is u t e)
one_is (u ∷ v ∷ ts) t e = absurd (cc)

-- the problem is that of its one tuple
only_one : (ask : TupleData → ProblemData) (ts : List TupleData) (t : TupleData) → ((u : TupleData) → ask u ≡ ask t → u ≡ t) → (one_tuple ts >>= λ u. Ok (ask u)) ≡ Ok (ask t) → ts ≡ t ∷ []
only_one ask ts t same e =
    let p = bind_ok (one_tuple ts) (λ u. Ok (ask u)) (ask t) e in
    one_is ts t (p.1 ∙ ap (λ v. Ok v) (same p.0 (ok_is (ask p.0) (ask t) p.2)))

one_row : (n : ℕ) (rows : List Row) (t : TupleData) (moves : Option (List Move)) → StatedRows false n rows (t ∷ []) moves → (r : Row) × (rows ≡ r ∷ []) × IsTupleRow n r t
one_row n rows t moves (more r _ is none) = (r, refl, is)
one_row n rows t moves (more r _ is (last q ms taken given)) = absurd (cc)

tuple_is : (command : Command) (bytes : List ℕ) (p : ProblemData) (t : TupleData) → takes_moves command ≡ false → ((s : Stated) → problem_with command s ≡ Ok p → s.tuples ≡ t ∷ []) →
    problem command bytes ≡ Ok p → (length bytes ≤ most_problem_bytes) × IsTupleText (greatest_rank command) bytes t
tuple_is command bytes p t takes one e =
    let x = text_is command bytes p e in
    let n = x.1 in
    let given = moves_told x.2.moves in
    let stated = subst (λ (takes : Bool). StatedRows takes n x.3.rows x.2.tuples given) takes x.3.stated in
    let d = one_row n x.3.rows t given (subst (λ (ts : List TupleData). StatedRows false n x.3.rows ts given) (one x.2 x.4) stated) in
    let ls = two_lines (kept_lines (lines bytes)) (codes "rank" ∷ decimal n ∷ []) (texts_of d.0) (x.3.have.texts ∙ ap (λ rs. (codes "rank" ∷ decimal n ∷ []) ∷ map texts_of rs) d.1) in
    let tuple = line_row n ls.1 d.0 t ls.4 d.2 in
    let rank : n ≡ t.rank = ap (λ v. v.rank) (sym tuple.cyclic) in (
      x.0,
      record {
        clean = x.3.have.clean;
        rank_line = ls.0;
        tuple_line = ls.1;
        kept = ls.2;
        rank = subst (λ (m : ℕ). IsRankLine m ls.0) rank ls.3;
        least = omega (arith, rank, x.3.least);
        greatest = omega (arith, rank, x.3.greatest);
        tuple = subst (λ (m : ℕ). IsTupleLine m ls.1 t) rank tuple;
      },
    )

tuple_back : (command : Command) (bytes : List ℕ) (p : ProblemData) (t : TupleData) → ((found : Result (List Move) ReadError) → problem_with command (record { tuples = t ∷ []; moves = found }) ≡ Ok p) →
    length bytes ≤ most_problem_bytes → IsTupleText (greatest_rank command) bytes t → problem command bytes ≡ Ok p
tuple_back command bytes p t asks h x =
    let row = tuple_row t.rank x.tuple_line t x.tuple in
    text_back command bytes p t.rank (t ∷ []) None h
    (record {
      rows = row ∷ [];
      have = record {
        clean = x.clean;
        texts = ap (map field_texts) x.kept ∙ ap (λ w. w ∷ field_texts x.tuple_line ∷ []) x.rank ∙ ap (λ w. (codes "rank" ∷ decimal t.rank ∷ []) ∷ w ∷ []) (row_texts t.rank x.tuple_line t x.tuple);
      };
      least = x.least;
      greatest = x.greatest;
      stated = more row t (row_line t.rank x.tuple_line t x.tuple) none;
    }) (λ found same. asks found)

pub reads_reduce_texts : ReadsReduceTexts
reads_reduce_texts bytes t = (
  tuple_is commands.Reduce bytes (reduce t) t refl (λ s e. only_one reduce s.tuples t (λ u same. (cc)) e),
  λ p. tuple_back commands.Reduce bytes (reduce t) t (λ found. refl) p.0 p.1,
)

pub reads_stabiliser_texts : ReadsStabiliserTexts
reads_stabiliser_texts bytes t = (
  tuple_is commands.Stabiliser bytes (stabiliser t) t refl (λ s e. only_one stabiliser s.tuples t (λ u same. (cc)) e),
  λ p. tuple_back commands.Stabiliser bytes (stabiliser t) t (λ found. refl) p.0 p.1,
)

-- ---- two tuples
two_are : (ts : List TupleData) (p : TupleData × TupleData) → two_tuples ts ≡ Ok p → ts ≡ p.0 ∷ p.1 ∷ []
two_are [] p e = absurd (cc)
two_are (t ∷ []) p e = absurd (cc)
two_are (t ∷ u ∷ []) p e = ap (λ q. q.0 ∷ q.1 ∷ []) (ok_is (t, u) p e)
two_are (t ∷ u ∷ v ∷ ts) p e = absurd (cc)

with_two : (stated : Stated) (s t : TupleData) → problem_with commands.Decide stated ≡ Ok (decide s t) → (stated.tuples ≡ s ∷ t ∷ []) × (length s.words ≡ length t.words)
with_two stated s t e =
    let p = bind_ok (two_tuples stated.tuples) (λ q. decide_both q.0 q.1) (decide s t) e in
    let u = p.0.0 in
    let v = p.0.1 in
    let q = if_ok (length u.words == length v.words) (errors.SizeMismatch (length u.words) (length v.words)) (Ok (decide u v)) (decide s t) p.2 in
    let same : decide u v ≡ decide s t = ok_is (decide u v) (decide s t) q.1 in
    let first : u ≡ s = (cc) in
    let second : v ≡ t = (cc) in (
      two_are stated.tuples p.0 p.1 ∙ ap (λ w. w ∷ v ∷ []) first ∙ ap (λ w. s ∷ w ∷ []) second,
      ap (λ w. length w.words) (sym first) ∙ eqb-true (length u.words) (length v.words) q.0 ∙ ap (λ w. length w.words) second,
    )

with_two_back : (s t : TupleData) (found : Result (List Move) ReadError) → length s.words ≡ length t.words → problem_with commands.Decide (record { tuples = s ∷ t ∷ []; moves = found }) ≡ Ok (decide s t)
with_two_back s t found e = cond-true (length s.words == length t.words) (Ok (decide s t)) (Err (errors.SizeMismatch (length s.words) (length t.words))) (eq_true (length s.words) (length t.words) e)

two_rows : (n : ℕ) (rows : List Row) (s t : TupleData) (moves : Option (List Move)) → StatedRows false n rows (s ∷ t ∷ []) moves → (r : Row) × (q : Row) × (rows ≡ r ∷ q ∷ []) × IsTupleRow n r s × IsTupleRow n q t
two_rows n rows s t moves (more r _ a (more q _ b none)) = (r, q, refl, a, b)
two_rows n rows s t moves (more r _ a (more q _ b (last p ms taken given))) = absurd (cc)

decide_is : (bytes : List ℕ) (s t : TupleData) → problem commands.Decide bytes ≡ Ok (decide s t) → (length bytes ≤ most_problem_bytes) × IsDecideText bytes s t
decide_is bytes s t e =
    let x = text_is commands.Decide bytes (decide s t) e in
    let n = x.1 in
    let w = with_two x.2 s t x.4 in
    let given = moves_told x.2.moves in
    let d = two_rows n x.3.rows s t given (subst (λ (ts : List TupleData). StatedRows false n x.3.rows ts given) w.0 x.3.stated) in
    let ls = three_lines (kept_lines (lines bytes)) (codes "rank" ∷ decimal n ∷ []) (texts_of d.0) (texts_of d.1) (x.3.have.texts ∙ ap (λ rs. (codes "rank" ∷ decimal n ∷ []) ∷ map texts_of rs) d.2) in
    let first = line_row n ls.1 d.0 s ls.5 d.3 in
    let second = line_row n ls.2 d.1 t ls.6 d.4 in
    let rank : n ≡ s.rank = ap (λ v. v.rank) (sym first.cyclic) in (
      x.0,
      record {
        clean = x.3.have.clean;
        rank_line = ls.0;
        first_line = ls.1;
        second_line = ls.2;
        kept = ls.3;
        rank = subst (λ (m : ℕ). IsRankLine m ls.0) rank ls.4;
        least = omega (arith, rank, x.3.least);
        greatest = omega (arith, rank, x.3.greatest);
        first = subst (λ (m : ℕ). IsTupleLine m ls.1 s) rank first;
        second = subst (λ (m : ℕ). IsTupleLine m ls.2 t) rank second;
        equal = w.1;
      },
    )

decide_back : (bytes : List ℕ) (s t : TupleData) → length bytes ≤ most_problem_bytes → IsDecideText bytes s t → problem commands.Decide bytes ≡ Ok (decide s t)
decide_back bytes s t h x =
    let n = s.rank in
    let first = tuple_row n x.first_line s x.first in
    let second = tuple_row n x.second_line t x.second in
    text_back commands.Decide bytes (decide s t) n (s ∷ t ∷ []) None h
    (record {
      rows = first ∷ second ∷ [];
      have = record {
        clean = x.clean;
        texts = ap (map field_texts) x.kept ∙ ap (λ w. w ∷ field_texts x.first_line ∷ field_texts x.second_line ∷ []) x.rank
            ∙ ap (λ w. (codes "rank" ∷ decimal n ∷ []) ∷ w ∷ field_texts x.second_line ∷ []) (row_texts n x.first_line s x.first)
            ∙ ap (λ w. (codes "rank" ∷ decimal n ∷ []) ∷ texts_of first ∷ w ∷ []) (row_texts n x.second_line t x.second);
      };
      least = x.least;
      greatest = x.greatest;
      stated = more first s (row_line n x.first_line s x.first) (more second t (row_line n x.second_line t x.second) none);
    }) (λ found same. with_two_back s t found x.equal)

pub reads_decide_texts : ReadsDecideTexts
reads_decide_texts bytes s t = (decide_is bytes s t, λ p. decide_back bytes s t p.0 p.1)

-- ---- a tuple and moves
-- a line of moves, and the row of one
given_line : (n : ℕ) (bytes : List ℕ) (r : Row) (ms : List Move) → field_texts bytes ≡ texts_of r → IsGivenRow n r ms → IsMovesLine n bytes ms
given_line n bytes r ms e is = record { fields = r.fields; spelled = e ∙ ap (λ w. w ∷ r.fields) is.keyword; few = is.few; told = is.told }

given_row : (n : ℕ) (bytes : List ℕ) (ms : List Move) → IsMovesLine n bytes ms → Row
given_row n bytes ms is = record { keyword = codes "moves"; fields = is.fields }

line_given : (n : ℕ) (bytes : List ℕ) (ms : List Move) (is : IsMovesLine n bytes ms) → IsGivenRow n (given_row n bytes ms is) ms
unfolding given_row
line_given n bytes ms is = record { keyword = refl; few = is.few; told = is.told }

given_texts : (n : ℕ) (bytes : List ℕ) (ms : List Move) (is : IsMovesLine n bytes ms) → field_texts bytes ≡ texts_of (given_row n bytes ms is)
unfolding given_row
given_texts n bytes ms is = is.spelled

with_moves : (s : Stated) (t : TupleData) (ms : List Move) → problem_with commands.Straighten s ≡ Ok (straighten t ms) → (s.tuples ≡ t ∷ []) × (moves_told s.moves ≡ Some ms)
with_moves s t ms e =
    let p = bind_ok (one_tuple s.tuples) (λ t. s.moves >>= λ ms. Ok (straighten t ms)) (straighten t ms) e in
    let q = bind_ok s.moves (λ ms. Ok (straighten p.0 ms)) (straighten t ms) p.2 in
    let same : straighten p.0 q.0 ≡ straighten t ms = ok_is (straighten p.0 q.0) (straighten t ms) q.2 in
    let tuple : p.0 ≡ t = (cc) in
    let moves : q.0 ≡ ms = (cc) in
    (one_is s.tuples t (p.1 ∙ ap (λ v. Ok v) tuple), ap moves_told q.1 ∙ ap (λ v. Some v) moves)

with_moves_back : (t : TupleData) (ms : List Move) (found : Result (List Move) ReadError) → found ≡ Ok ms → problem_with commands.Straighten (record { tuples = t ∷ []; moves = found }) ≡ Ok (straighten t ms)
with_moves_back t ms found e = ap (λ r. r >>= λ ms. Ok (straighten t ms)) e

tuple_and_moves : (n : ℕ) (rows : List Row) (t : TupleData) (ms : List Move) → StatedRows true n rows (t ∷ []) (Some ms) → (r : Row) × (q : Row) × (rows ≡ r ∷ q ∷ []) × IsTupleRow n r t × IsGivenRow n q ms
tuple_and_moves n rows t ms (more r _ is (last q _ taken given)) = (r, q, refl, is, given)

straighten_is : (bytes : List ℕ) (t : TupleData) (ms : List Move) → problem commands.Straighten bytes ≡ Ok (straighten t ms) → (length bytes ≤ most_problem_bytes) × IsStraightenText bytes t ms
straighten_is bytes t ms e =
    let x = text_is commands.Straighten bytes (straighten t ms) e in
    let n = x.1 in
    let w = with_moves x.2 t ms x.4 in
    let told = subst (λ (ts : List TupleData). StatedRows true n x.3.rows ts (moves_told x.2.moves)) w.0 x.3.stated in
    let d = tuple_and_moves n x.3.rows t ms (subst (λ (given : Option (List Move)). StatedRows true n x.3.rows (t ∷ []) given) w.1 told) in
    let ls = three_lines (kept_lines (lines bytes)) (codes "rank" ∷ decimal n ∷ []) (texts_of d.0) (texts_of d.1) (x.3.have.texts ∙ ap (λ rs. (codes "rank" ∷ decimal n ∷ []) ∷ map texts_of rs) d.2) in
    let tuple = line_row n ls.1 d.0 t ls.5 d.3 in
    let moves = given_line n ls.2 d.1 ms ls.6 d.4 in
    let rank : n ≡ t.rank = ap (λ v. v.rank) (sym tuple.cyclic) in (
      x.0,
      record {
        clean = x.3.have.clean;
        rank_line = ls.0;
        tuple_line = ls.1;
        moves_line = ls.2;
        kept = ls.3;
        rank = subst (λ (m : ℕ). IsRankLine m ls.0) rank ls.4;
        least = omega (arith, rank, x.3.least);
        greatest = omega (arith, rank, x.3.greatest);
        tuple = subst (λ (m : ℕ). IsTupleLine m ls.1 t) rank tuple;
        moves = subst (λ (m : ℕ). IsMovesLine m ls.2 ms) rank moves;
      },
    )

straighten_back : (bytes : List ℕ) (t : TupleData) (ms : List Move) → length bytes ≤ most_problem_bytes → IsStraightenText bytes t ms → problem commands.Straighten bytes ≡ Ok (straighten t ms)
straighten_back bytes t ms h x =
    let n = t.rank in
    let tuple = tuple_row n x.tuple_line t x.tuple in
    let moves = given_row n x.moves_line ms x.moves in
    text_back commands.Straighten bytes (straighten t ms) n (t ∷ []) (Some ms) h
    (record {
      rows = tuple ∷ moves ∷ [];
      have = record {
        clean = x.clean;
        texts = ap (map field_texts) x.kept ∙ ap (λ w. w ∷ field_texts x.tuple_line ∷ field_texts x.moves_line ∷ []) x.rank
            ∙ ap (λ w. (codes "rank" ∷ decimal n ∷ []) ∷ w ∷ field_texts x.moves_line ∷ []) (row_texts n x.tuple_line t x.tuple)
            ∙ ap (λ w. (codes "rank" ∷ decimal n ∷ []) ∷ texts_of tuple ∷ w ∷ []) (given_texts n x.moves_line ms x.moves);
      };
      least = x.least;
      greatest = x.greatest;
      stated = more tuple t (row_line n x.tuple_line t x.tuple) (last moves ms refl (line_given n x.moves_line ms x.moves));
    }) (λ found same. with_moves_back t ms found (told_moves found ms same))

pub reads_straighten_texts : ReadsStraightenTexts
reads_straighten_texts bytes t ms = (straighten_is bytes t ms, λ p. straighten_back bytes t ms p.0 p.1)
