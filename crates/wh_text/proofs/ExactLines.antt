-- The lines of a certificate are read exactly from what they tell: for the law on certificates.
use Rattle.std.proofs.Common.{◌≡◌, ℕ, ◌^◌, ◌<◌, ◌≤◌, ◌==◌, Bool, true, false, cond, List, [], ◌∷◌, ◌++◌, length, map, refl, sym, ap, ◌∙◌, subst, arith, append-nil, None, Some, Ok, Err}
use Rattle.std.specs.Prelude.{◌&&◌, leb, codes, decimal}
use Rattle.std.specs.declared.option.Option.{Option}
use Rattle.std.proofs.lemmas.Bool.{cond-true, eqb-true}
use Rattle.std.proofs.lemmas.Bool.Decides.{nat_tests}
use Rattle.wh_words.specs.Tuples.{TupleData}
use Rattle.wh_words.specs.Moves.{Move, Kind}
use Rattle.wh_lines.specs.declared.read_error.ReadError.TheVariants as errors
use Rattle.wh_lines.specs.Lines.{Field}
use Rattle.wh_lines.specs.Readings.{◌>>=◌, items_at, or_bad_line, refused_as}
use Rattle.wh_lines.specs.Numbers.{number}
use Rattle.wh_lines.specs.Rows.{Row, number_row}
use Rattle.wh_lines.specs.KeptLines.{Kept}
use Rattle.wh_lines.specs.LineReadings.{times}
use Rattle.wh_lines.proofs.Equations.{bind_ok, ok_is, ok_same, if_ok, refused_ok}
use Rattle.wh_lines.proofs.Scanning.{eq_true}
use Rattle.wh_lines.proofs.FieldLaws.{AreSome}
use Rattle.wh_lines.proofs.NumberLaws.{reads_numbers}
use Rattle.wh_lines.proofs.RowReadings.{Tells}
use Rattle.wh_lines.proofs.ExactReadings.{row_of, Exact, Then, Headed, Nothing, OneRow, Rows, exact_none, exact_then, exact_head, exact_line, exact_as, exact_times}
use Rattle.wh_fields.specs.MoveFields.{kind_in, move_with, or_bad_move, move_at, moves_at}
use Rattle.wh_fields.specs.TupleFields.{tuple_at, words_row}
use Rattle.wh_fields.specs.FlowFields.{FlowData, flow_in}
use Rattle.wh_fields.specs.Laws.{AreMoveFields, IsMoveField, IsFlowLine}
use Rattle.wh_fields.proofs.TupleLaws.{tuple_is, tuple_back}
use Rattle.wh_fields.proofs.MoveLaws.{reads_moves}
use Rattle.wh_fields.proofs.FlowLaws.{reads_flows}
use Rattle.wh_text.specs.Certificates.{in_answer, tuple_after, like_of, like_after, moves_after, flow_after, SideRead, side_with, side_after, within, number_in, level_after}
use Rattle.wh_text.specs.CertificateTexts.{IsTupleRow, IsLikeRow, IsMovesRow, IsFlowRow, IsSideText, IsLevelText}
use Rattle.wh_words.specs.Limits.{most_level_tuples}

pub same_row : (k : Kept) (keyword : List ℕ) (fs : List (List ℕ)) → k.keyword ≡ keyword → map (λ f. f.bytes) k.fields ≡ fs → row_of k ≡ record { keyword = keyword; fields = fs }
same_row k keyword fs e f = ap (λ w. record { keyword = w; fields = map (λ f. f.bytes) k.fields }) e ∙ ap (λ gs. record { keyword = keyword; fields = gs }) f

-- nothing follows the first
pub alone : {A : Type 0} (y z : A) (rows first second : List Row) → rows ≡ first ++ second → Nothing y second z → rows ≡ first
alone y z rows first second e n = e ∙ ap (λ rs. first ++ rs) n.none ∙ append-nil first

-- ---- tuples
tuple_is_row : (keyword : List ℕ) (n : ℕ) → n ≤ 26 → (k : Kept) (t : TupleData) → AreSome k.fields → k.keyword ≡ keyword → refused_as in_answer (tuple_at n k.number k.fields) ≡ Ok t → IsTupleRow keyword n (row_of k) t
tuple_is_row keyword n h k t some is e =
    let s = tuple_is n k.number k.fields t h some (refused_ok in_answer (tuple_at n k.number k.fields) t e) in
    record { written = s.written; spelled = same_row k keyword (words_row keyword s.written).fields is s.spelled; of_rank = s.of_rank; few = s.few; short = s.short; cyclic = s.cyclic }

tuple_row_back : (keyword : List ℕ) (n : ℕ) → n ≤ 26 → (r : Row) (k : Kept) (t : TupleData) → Tells r k → IsTupleRow keyword n r t → (r.keyword ≡ keyword) × (refused_as in_answer (tuple_at n k.number k.fields) ≡ Ok t)
tuple_row_back keyword n h r k t tells is = (
  ap (λ (x : Row). x.keyword) is.spelled,
  ap (refused_as in_answer) (tuple_back n k.number k.fields t h tells.some (record { written = is.written; spelled = tells.same ∙ ap (λ (x : Row). x.fields) is.spelled; of_rank = is.of_rank; few = is.few; short = is.short; cyclic = is.cyclic })),
)

pub exact_tuple : (keyword : List ℕ) (n : ℕ) → n ≤ 26 → Exact (tuple_after keyword n) (OneRow (IsTupleRow keyword n))
unfolding tuple_after
exact_tuple keyword n h = exact_line keyword (λ k. refused_as in_answer (tuple_at n k.number k.fields)) (IsTupleRow keyword n) (tuple_is_row keyword n h) (tuple_row_back keyword n h)

pub exact_like : (keyword : List ℕ) (n count : ℕ) → n ≤ 26 → Exact (like_after keyword n count) (OneRow (IsLikeRow keyword n count))
unfolding like_after like_of
exact_like keyword n count h =
    exact_line keyword (like_of n count) (IsLikeRow keyword n count)
    (λ k t some is e.
    let a = bind_ok (refused_as in_answer (tuple_at n k.number k.fields)) (λ t. cond (length t.words == count) (Ok t) (Err (errors.BadLine k.number))) t e in
    let b = if_ok (length a.0.words == count) (errors.BadLine k.number) (Ok a.0) t a.2 in
    let same : a.0 ≡ t = ok_is a.0 t b.1 in
    (subst (IsTupleRow keyword n (row_of k)) same (tuple_is_row keyword n h k a.0 some is a.1), ap (λ (u : TupleData). length u.words) (sym same) ∙ eqb-true (length a.0.words) count b.0))
    (λ r k t tells is.
    let back = tuple_row_back keyword n h r k t tells is.0 in
    (back.0, ap (λ q. q >>= λ t. cond (length t.words == count) (Ok t) (Err (errors.BadLine k.number))) back.1 ∙ cond-true (length t.words == count) (Ok t) (Err (errors.BadLine k.number)) (eq_true (length t.words) count is.1)))

-- ---- moves
move_told : (n l c : ℕ) (o : Option Kind) (m : Move) → or_bad_move l c (move_with n o) ≡ Ok m → (k : Kind) × (o ≡ Some k) × (record { rank = n; kind = k } ≡ m)
move_told n l c None m e = absurd (cc)
move_told n l c (Some k) m e = (k, refl, ok_is (record { rank = n; kind = k }) m e)

pub moves_are : (n l : ℕ) (fs : List Field) (ms : List Move) → n ≤ 26 → moves_at n l fs ≡ Ok ms → AreMoveFields n (map (λ f. f.bytes) fs) ms
unfolding items_at
moves_are n l [] ms h e = ok_same (AreMoveFields n []) [] ms e tt
moves_are n l (f ∷ fs) ms h e =
    let a = bind_ok (move_at n l f) (λ x. moves_at n l fs >>= λ xs. Ok (x ∷ xs)) ms e in
    let b = bind_ok (moves_at n l fs) (λ xs. Ok (a.0 ∷ xs)) ms a.2 in
    let t = move_told n l f.column (kind_in n f.bytes) a.0 a.1 in
    let is : IsMoveField n f.bytes a.0.kind = subst (IsMoveField n f.bytes) (ap (λ (m : Move). m.kind) t.2) ((reads_moves n f.bytes t.0 h).0 t.1) in
    ok_same (AreMoveFields n (f.bytes ∷ map (λ f. f.bytes) fs)) (a.0 ∷ b.0) ms b.2 (sym (ap (λ (m : Move). m.rank) t.2), is, moves_are n l fs b.0 h b.1)

pub moves_back : (n l : ℕ) (fs : List Field) (ms : List Move) → n ≤ 26 → AreMoveFields n (map (λ f. f.bytes) fs) ms → moves_at n l fs ≡ Ok ms
unfolding items_at
moves_back n l [] [] h a = refl
moves_back n l [] (m ∷ ms) h a = absurd a
moves_back n l (f ∷ fs) [] h a = absurd a
moves_back n l (f ∷ fs) (m ∷ ms) h a =
    let one : move_at n l f ≡ Ok m = ap (λ o. or_bad_move l f.column (move_with n o)) ((reads_moves n f.bytes m.kind h).1 a.1) ∙ ap (λ k. Ok (record { rank = k; kind = m.kind })) (sym a.0) in
    ap (λ r. r >>= λ x. moves_at n l fs >>= λ xs. Ok (x ∷ xs)) one ∙ ap (λ r. r >>= λ xs. Ok (m ∷ xs)) (moves_back n l fs ms h a.2)

pub exact_moves : (keyword : List ℕ) (n : ℕ) → n ≤ 26 → Exact (moves_after keyword n) (OneRow (IsMovesRow keyword n))
unfolding moves_after
exact_moves keyword n h =
    exact_line keyword (λ k. refused_as in_answer (moves_at n k.number k.fields)) (IsMovesRow keyword n)
    (λ k ms some is e. (is, moves_are n k.number k.fields ms h (refused_ok in_answer (moves_at n k.number k.fields) ms e)))
    (λ r k ms tells is. (is.0, ap (refused_as in_answer) (moves_back n k.number k.fields ms h (subst (λ (fs : List (List ℕ)). AreMoveFields n fs ms) (sym tells.same) is.1))))

-- ---- flows
flow_told : (l : ℕ) (o : Option FlowData) (d : FlowData) → or_bad_line l o ≡ Ok d → o ≡ Some d
flow_told l None d e = absurd (cc)
flow_told l (Some f) d e = ap (λ x. Some x) (ok_is f d e)

pub exact_flow : (n : ℕ) → n ≤ 26 → Exact (flow_after n) (OneRow (IsFlowRow n))
unfolding flow_after
exact_flow n h =
    exact_line (codes "flow") (λ k. or_bad_line k.number (flow_in n k.fields)) (IsFlowRow n)
    (λ k d some is e. (is, (reads_flows n k.fields d h).0 (flow_told k.number (flow_in n k.fields) d e)))
    (λ r k d tells is. (is.0, ap (or_bad_line k.number) ((reads_flows n k.fields d h).1 (subst (λ (fs : List (List ℕ)). IsFlowLine n fs d) (sym tells.same) is.1))))

-- ---- sides
abbrev pub SideParts : ℕ → ℕ → List Row → SideRead → Type 0
SideParts n count =
    Then (OneRow (IsMovesRow (codes "trace") n)) (λ ms.
    Then (OneRow (IsLikeRow (codes "end") n count)) (λ t.
    Then (Rows (IsFlowRow n) n) (λ fs. Nothing (side_with ms t fs))))

abbrev pub IsSideRead : ℕ → ℕ → List Row → SideRead → Type 0
IsSideRead n count rows s = IsSideText n count rows s.side s.heads

pub side_there : (n count : ℕ) (rows : List Row) (x : SideRead) → SideParts n count rows x → IsSideRead n count rows x
side_there n count rows x s =
    let t = s.two in
    let u = t.two in
    let flows : u.first ++ u.second ≡ u.first = ap (λ rs. u.first ++ rs) u.two.none ∙ append-nil u.first in
    let later : s.second ≡ t.one.row ∷ u.first = t.parts ∙ ap (λ rs. rs ++ t.second) t.one.parts ∙ ap (λ rs. t.one.row ∷ rs) (u.parts ∙ flows) in
    let parts : rows ≡ s.one.row ∷ t.one.row ∷ u.first = s.parts ∙ ap (λ rs. rs ++ s.second) s.one.parts ∙ ap (λ rs. s.one.row ∷ rs) later in
    subst (IsSideRead n count rows) u.two.same (record {
      trace_row = s.one.row;
      end_row = t.one.row;
      flow_rows = u.first;
      told = u.x;
      parts = parts;
      trace = s.one.one;
      end = t.one.one;
      flows = u.one.each;
      count_of = u.one.count;
      tables = refl;
      heads_of = refl;
    })

side_again : (n count : ℕ) (rows : List Row) (x : SideRead) → IsSideRead n count rows x → SideParts n count rows x
side_again n count rows x s = record {
  x = x.side.trace;
  first = s.trace_row ∷ [];
  second = s.end_row ∷ s.flow_rows;
  parts = s.parts;
  one = record { row = s.trace_row; parts = refl; one = s.trace };
  two = record {
    x = x.side.end;
    first = s.end_row ∷ [];
    second = s.flow_rows;
    parts = refl;
    one = record { row = s.end_row; parts = refl; one = s.end };
    two = record {
      x = s.told;
      first = s.flow_rows;
      second = [];
      parts = sym (append-nil s.flow_rows);
      one = record { each = s.flows; count = s.count_of };
      two = record {
        none = refl;
        same = ap (λ ts. record { side = record { trace = x.side.trace; end = x.side.end; flows = ts }; heads = map (λ f. f.head) s.told }) (sym s.tables)
            ∙ ap (λ hs. record { side = x.side; heads = hs }) (sym s.heads_of);
      };
    };
  };
}

pub exact_side : (n count : ℕ) → n ≤ 26 → Exact (side_after n count) (IsSideRead n count)
unfolding side_after
exact_side n count h =
    exact_as (side_after n count) (SideParts n count) (IsSideRead n count) (side_there n count) (side_again n count)
    (exact_then (moves_after (codes "trace") n) (λ ms. like_after (codes "end") n count ms.1 >>= λ t. times (flow_after n) n t.1 >>= λ fs. Ok (side_with ms.0 t.0 fs.0, fs.1))
    (OneRow (IsMovesRow (codes "trace") n)) (λ ms. Then (OneRow (IsLikeRow (codes "end") n count)) (λ t. Then (Rows (IsFlowRow n) n) (λ fs. Nothing (side_with ms t fs))))
    (exact_moves (codes "trace") n h)
    (λ ms. exact_then (like_after (codes "end") n count) (λ t. times (flow_after n) n t.1 >>= λ fs. Ok (side_with ms t.0 fs.0, fs.1))
    (OneRow (IsLikeRow (codes "end") n count)) (λ t. Then (Rows (IsFlowRow n) n) (λ fs. Nothing (side_with ms t fs)))
    (exact_like (codes "end") n count h)
    (λ t. exact_then (times (flow_after n) n) (λ fs. Ok (side_with ms t fs.0, fs.1)) (Rows (IsFlowRow n) n) (λ fs. Nothing (side_with ms t fs))
    (exact_times (flow_after n) (IsFlowRow n) n (exact_flow n h))
    (λ fs. exact_none (side_with ms t fs)))))

-- ---- levels
within_told : (least most : ℕ) (o : Option ℕ) (k : ℕ) → within least most o ≡ Some k → (o ≡ Some k) × (least ≤ k) × (k ≤ most)
within_told least most None k e = absurd (cc)
within_told least most (Some j) k e = by (leb least j && leb j most) refl e
  where
    by : (t : Bool) → (leb least j && leb j most) ≡ t → cond t (Some j) None ≡ Some k → (◌≡◌ {A = Option ℕ} (Some j) (Some k)) × (least ≤ k) × (k ≤ most)
    by true t e =
        let same : j ≡ k = (cc) in
        let low : least ≤ j = grind (arith, nat_tests) in
        let high : j ≤ most = grind (arith, nat_tests) in
        (e, omega (arith, same, low), omega (arith, same, high))
    by false t e = absurd (cc)

pub number_is_row : (keyword : List ℕ) (least most : ℕ) (k : Kept) (n : ℕ) → k.keyword ≡ keyword → or_bad_line k.number (number_in least most k.fields) ≡ Ok n → (row_of k ≡ number_row keyword n) × (least ≤ n) × (n ≤ most)
number_is_row keyword least most k n is e = by k.fields refl e
  where
    by : (fs : List Field) → k.fields ≡ fs → or_bad_line k.number (number_in least most fs) ≡ Ok n → (row_of k ≡ number_row keyword n) × (least ≤ n) × (n ≤ most)
    by [] f e = absurd (cc)
    by (f ∷ []) g e =
        let told = some_told k.number (within least most (number f.bytes)) n e in
        let w = within_told least most (number f.bytes) n told in
        let spelled : f.bytes ≡ decimal n = ((reads_numbers f.bytes n).0 w.0).0 in
        (same_row k keyword (decimal n ∷ []) is (ap (map (λ f. f.bytes)) g ∙ ap (λ v. v ∷ []) spelled), w.1, w.2)
      where
        some_told : (l : ℕ) (o : Option ℕ) (m : ℕ) → or_bad_line l o ≡ Ok m → o ≡ Some m
        some_told l None m e = absurd (cc)
        some_told l (Some j) m e = ap (λ x. Some x) (ok_is j m e)
    by (f ∷ g ∷ fs) h e = absurd (cc)

pub number_row_back : (keyword : List ℕ) (least most : ℕ) (r : Row) (k : Kept) (n : ℕ) → n < 2 ^ 64 → Tells r k → (r ≡ number_row keyword n) × (least ≤ n) × (n ≤ most) → (r.keyword ≡ keyword) × (or_bad_line k.number (number_in least most k.fields) ≡ Ok n)
number_row_back keyword least most r k n small tells is = (ap (λ (x : Row). x.keyword) is.0, by k.fields (tells.same ∙ ap (λ (x : Row). x.fields) is.0))
  where
    by : (fs : List Field) → map (λ f. f.bytes) fs ≡ decimal n ∷ [] → or_bad_line k.number (number_in least most fs) ≡ Ok n
    by [] e = absurd (cc)
    by (f ∷ []) e =
        let spelled : f.bytes ≡ decimal n = (cc) in
        ap (λ o. or_bad_line k.number (within least most o)) ((reads_numbers f.bytes n).1 (spelled, small))
        ∙ ap (or_bad_line k.number) (cond-true (leb least n && leb n most) (Some n) None (grind (arith, nat_tests, is.1, is.2)))
    by (f ∷ g ∷ fs) e = absurd (cc)

abbrev pub SizeRow : Row → ℕ → Type 0
SizeRow r size = (r ≡ number_row (codes "level") size) × (1 ≤ size) × (size ≤ most_level_tuples)

pub level_there : (n count : ℕ) (rows : List Row) (ts : List TupleData) → Headed SizeRow (Rows (IsLikeRow (codes "at") n count)) rows ts → IsLevelText n count rows ts
level_there n count rows ts s = record {
  at_rows = s.later;
  parts = s.parts ∙ ap (λ r. r ∷ s.later) (s.one.0 ∙ ap (number_row (codes "level")) (sym s.two.count));
  least = omega (arith, s.one.1, s.two.count);
  most = omega (arith, s.one.2, s.two.count);
  tuples = s.two.each;
}

level_again : (n count : ℕ) (rows : List Row) (ts : List TupleData) → IsLevelText n count rows ts → Headed SizeRow (Rows (IsLikeRow (codes "at") n count)) rows ts
level_again n count rows ts s = record { x = length ts; head = number_row (codes "level") (length ts); later = s.at_rows; parts = s.parts; one = (refl, s.least, s.most); two = record { each = s.tuples; count = refl } }

pub exact_level : (n count : ℕ) → n ≤ 26 → Exact (level_after n count) (IsLevelText n count)
unfolding level_after
exact_level n count h =
    exact_as (level_after n count) (Headed SizeRow (Rows (IsLikeRow (codes "at") n count))) (IsLevelText n count) (level_there n count) (level_again n count)
    (exact_head (codes "level") (λ k. or_bad_line k.number (number_in 1 most_level_tuples k.fields)) (λ a. times (like_after (codes "at") n count) a.0 a.1) SizeRow (Rows (IsLikeRow (codes "at") n count))
    (λ k size some is e. number_is_row (codes "level") 1 most_level_tuples k size is e)
    (λ r k size tells is. number_row_back (codes "level") 1 most_level_tuples r k size (omega (arith, is.2)) tells is)
    (λ size. exact_times (like_after (codes "at") n count) (IsLikeRow (codes "at") n count) size (exact_like (codes "at") n count h)))
