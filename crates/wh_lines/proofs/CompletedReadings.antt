-- Readings that are refused at a line, where other lines in its place complete what is read: for the laws on where a text is refused.
use Rattle.std.proofs.Common.{◌≡◌, ℕ, suc, zero, Bool, true, false, cond, List, [], ◌∷◌, ◌++◌, refl, sym, ap, ◌∙◌, subst, append_assoc, Result, Ok, Err, inl, inr}
use Rattle.std.specs.List.{All}
use Rattle.std.proofs.lemmas.List.Elements.{All-nil, All-cons, All-append}
use Rattle.wh_lines.specs.declared.read_error.ReadError.{ReadError}
use Rattle.wh_lines.specs.declared.read_error.ReadError.TheVariants as errors
use Rattle.wh_lines.specs.Lines.{are}
use Rattle.wh_lines.specs.Readings.{◌>>=◌}
use Rattle.wh_lines.specs.Rows.{Row}
use Rattle.wh_lines.specs.KeptLines.{Kept, Rest}
use Rattle.wh_lines.specs.KeptLines.Rest.{line, bad_byte, end}
use Rattle.wh_lines.specs.LineReadings.{Reading, line_after, line_of, end_after, end_of, times}
use Rattle.wh_lines.proofs.Equations.{bind_err}
use Rattle.wh_lines.proofs.FieldLaws.{AreSome}
use Rattle.wh_lines.proofs.NextLines.{behind, line_told}
use Rattle.wh_lines.proofs.PrintedRows.{IsShownRow}
use Rattle.wh_lines.proofs.RowReadings.{Passes, passes_append}
use Rattle.wh_lines.proofs.RestRows.{AllSome, kept_row}
use Rattle.wh_lines.proofs.ExactReadings.{row_of, Spelled, Exact, Then, Headed, Nothing, OneRow, Rows, exact_times, each_more, none_rows}
use Rattle.wh_lines.proofs.LocalReadings.{InLine}

-- ---- rows that complete others
-- Line l is the next that isn't skipped, or it is the place past the end.
abbrev pub StandsAt : ℕ → Rest → Type 0
StandsAt l (line k later) = k.number ≡ l
StandsAt l (bad_byte m c) = ⊥
StandsAt l (end m) = m ≡ l

-- Rows that can be printed tell something.
pub record Possible {A : Type 0} (S : List Row → A → Type 0) : Type 0 where
  pub x : A
  pub rows : List Row
  pub told : S rows x
  pub shown : All IsShownRow rows

-- The lines from p up to line l, and then rows that can be printed, tell something.
pub record Completed {A : Type 0} (S : List Row → A → Type 0) (p : Reading) (l : ℕ) : Type 0 where
  pub passed : List Row
  pub at : Reading
  pub passes : Passes passed p at
  pub stands : StandsAt l at.rest
  pub more : List Row
  pub shown : All IsShownRow more
  pub x : A
  pub told : S (passed ++ more) x

-- Something can be told; and where line l is refused, the lines before it can be completed.
pub record Completes {A : Type 0} (read : Reading → Result (A × Reading) ReadError) (S : List Row → A → Type 0) : Type 0 where
  pub possible : Possible S
  pub complete : (p : Reading) (l : ℕ) → AllSome p.rest → read p ≡ Err (errors.BadLine l) → Completed S p l

-- all of it from line l on
pub completed_here : {A : Type 0} (S : List Row → A → Type 0) (p : Reading) (l : ℕ) → StandsAt l p.rest → Possible S → Completed S p l
completed_here S p l h a = record { passed = []; at = p; passes = refl; stands = h; more = a.rows; shown = a.shown; x = a.x; told = a.told }

pub completes_none : {A : Type 0} (y : A) → Completes (λ p. Ok (y, p)) (Nothing y)
completes_none y = record {
  possible = record { x = y; rows = []; told = record { none = refl; same = refl }; shown = All-nil IsShownRow };
  complete = λ p l some e. absurd (cc);
}

-- ---- one reading after another
completed_first : {A B : Type 0} (S : List Row → A → Type 0) (U : A → List Row → B → Type 0) (p : Reading) (l : ℕ) → ((x : A) (rows : List Row) → S rows x → Possible (U x)) → Completed S p l → Completed (Then S U) p l
completed_first S U p l g c =
    let b = g c.x (c.passed ++ c.more) c.told in
    record {
      passed = c.passed;
      at = c.at;
      passes = c.passes;
      stands = c.stands;
      more = c.more ++ b.rows;
      shown = All-append IsShownRow c.more b.rows c.shown b.shown;
      x = b.x;
      told = record { x = c.x; first = c.passed ++ c.more; second = b.rows; parts = sym (append_assoc c.passed c.more b.rows); one = c.told; two = b.told };
    }

completed_second : {A B : Type 0} (S : List Row → A → Type 0) (U : A → List Row → B → Type 0) (p q : Reading) (l : ℕ) (x : A) → Spelled S p q x → Completed (U x) q l → Completed (Then S U) p l
completed_second S U p q l x s c = record {
  passed = s.rows ++ c.passed;
  at = c.at;
  passes = passes_append s.rows c.passed p q c.at s.passes c.passes;
  stands = c.stands;
  more = c.more;
  shown = c.shown;
  x = c.x;
  told = record { x = x; first = s.rows; second = c.passed ++ c.more; parts = append_assoc s.rows c.passed c.more; one = s.told; two = c.told };
}

possible_then : {A B : Type 0} (S : List Row → A → Type 0) (U : A → List Row → B → Type 0) → ((x : A) (rows : List Row) → S rows x → Possible (U x)) → Possible S → Possible (Then S U)
possible_then S U g a =
    let b = g a.x a.rows a.told in
    record { x = b.x; rows = a.rows ++ b.rows; told = record { x = a.x; first = a.rows; second = b.rows; parts = refl; one = a.told; two = b.told }; shown = All-append IsShownRow a.rows b.rows a.shown b.shown }

-- What is read next may rest on what the first rows tell.
pub completes_then : {A B : Type 0} (read : Reading → Result (A × Reading) ReadError) (next : A × Reading → Result (B × Reading) ReadError) (S : List Row → A → Type 0) (U : A → List Row → B → Type 0) →
    Exact read S → Completes read S → ((x : A) (rows : List Row) → S rows x → Completes (λ p. next (x, p)) (U x)) → Completes (λ p. read p >>= next) (Then S U)
completes_then read next S U exact h g = record {
  possible = possible_then S U (λ x rows told. (g x rows told).possible) h.possible;
  complete = λ p l some e. elim (bind_err (read p) next (errors.BadLine l) e) [
    | inl w ↦ completed_first S U p l (λ x rows told. (g x rows told).possible) (h.complete p l some w)
    | inr s ↦ (let spelled = exact.is p s.0.1 s.0.0 some s.1 in
        completed_second S U p s.0.1 l s.0.0 spelled ((g s.0.0 spelled.rows spelled.told).complete s.0.1 l spelled.some s.2))
  ];
}

-- What rows tell is seen in another way.
pub completes_as : {A : Type 0} (read : Reading → Result (A × Reading) ReadError) (S T : List Row → A → Type 0) → ((rows : List Row) (x : A) → S rows x → T rows x) → Completes read S → Completes read T
completes_as read S T there h = record {
  possible = (let a = h.possible in record { x = a.x; rows = a.rows; told = there a.rows a.x a.told; shown = a.shown });
  complete = λ p l some e.
      let c = h.complete p l some e in
      record { passed = c.passed; at = c.at; passes = c.passes; stands = c.stands; more = c.more; shown = c.shown; x = c.x; told = there (c.passed ++ c.more) c.x c.told };
}

-- The same is read in another way.
pub completes_by : {A : Type 0} (read other : Reading → Result (A × Reading) ReadError) (S : List Row → A → Type 0) → ((p : Reading) → other p ≡ read p) → Completes read S → Completes other S
completes_by read other S e h = record { possible = h.possible; complete = λ p l some f. h.complete p l some (sym (e p) ∙ f) }

-- ---- a line
missing_by : (keyword taken : List ℕ) (r : Rest) (l : ℕ) → line_of keyword taken r ≡ Err (errors.BadLine l) → StandsAt l r
missing_by keyword taken (line k later) l e = by (are k.keyword keyword) e
  where
    by : (t : Bool) → cond {A = Result (Kept × Reading) ReadError} t (Ok (k, record { taken = taken ++ k.number ∷ []; rest = later })) (Err (errors.BadLine k.number)) ≡ Err (errors.BadLine l) → k.number ≡ l
    by true e = absurd (cc)
    by false e = cc
missing_by keyword taken (bad_byte m c) l e = absurd (cc)
missing_by keyword taken (end m) l e = cc

-- a line with another keyword, or none
pub missing_stands : (keyword : List ℕ) (p : Reading) (l : ℕ) → line_after keyword p ≡ Err (errors.BadLine l) → StandsAt l p.rest
unfolding line_after
missing_stands keyword p l e = missing_by keyword p.taken p.rest l e

-- a line that was read stands there
pub read_stands : (keyword : List ℕ) (p : Reading) (l : ℕ) (k : Kept × Reading) → line_after keyword p ≡ Ok k → k.0.number ≡ l → StandsAt l p.rest
read_stands keyword p l k e h = subst (StandsAt l) (sym (line_told keyword p k e).0) h

abbrev placed : {A : Type 0} → Reading → A → Result (A × Reading) ReadError
placed p x = Ok (x, p)

line_stands : {A : Type 0} (keyword : List ℕ) (tell : Kept → Result A ReadError) (p : Reading) (l : ℕ) → InLine tell → (line_after keyword p >>= λ k. tell k.0 >>= placed k.1) ≡ Err (errors.BadLine l) → StandsAt l p.rest
line_stands keyword tell p l is e = elim (bind_err (line_after keyword p) (λ k. tell k.0 >>= placed k.1) (errors.BadLine l) e) [
  | inl w ↦ missing_stands keyword p l w
  | inr s ↦ elim (bind_err (tell s.0.0) (placed s.0.1) (errors.BadLine l) s.2) [
    | inl w ↦ read_stands keyword p l s.0 s.1 (is s.0.0 l w)
    | inr u ↦ (let never = u.2 in absurd (cc))
  ]
]

-- A line with a keyword that tells something, as this row does.
pub completes_line : {A : Type 0} (keyword : List ℕ) (tell : Kept → Result A ReadError) (T : Row → A → Type 0) (r : Row) (x : A) → T r x → IsShownRow r → InLine tell →
    Completes (λ p. line_after keyword p >>= λ k. tell k.0 >>= λ x. Ok (x, k.1)) (OneRow T)
completes_line keyword tell T r x told shown is =
    let possible : Possible (OneRow T) = record { x = x; rows = r ∷ []; told = record { row = r; parts = refl; one = told }; shown = All-cons IsShownRow r [] shown (All-nil IsShownRow) } in
    record { possible = possible; complete = λ p l some e. completed_here (OneRow T) p l (line_stands keyword tell p l is e) possible }

-- what follows a line that was read is completed
completed_behind : {A B : Type 0} (keyword : List ℕ) (T : Row → A → Type 0) (U : A → List Row → B → Type 0) (p : Reading) (l : ℕ) (k : Kept × Reading) (x : A) → line_after keyword p ≡ Ok k → AllSome p.rest →
    (AreSome k.0.fields → k.0.keyword ≡ keyword → T (row_of k.0) x) → (AllSome k.1.rest → T (row_of k.0) x → Completed (U x) k.1 l) → Completed (Headed T U) p l
completed_behind keyword T U p l k x e some is later =
    let line_is = line_told keyword p k e in
    let all : AllSome (line k.0 k.1.rest) = subst AllSome line_is.0 some in
    let place : k.1 ≡ behind p k.0 k.1.rest = ap (λ ns. record { taken = ns; rest = k.1.rest }) line_is.1 in
    let one = is all.0 line_is.2 in
    let c = later all.1 one in
    record {
      passed = row_of k.0 ∷ c.passed;
      at = c.at;
      passes = (k.0, k.1.rest, line_is.0, kept_row k.0 all.0, subst (λ (r : Reading). Passes c.passed r c.at) place c.passes);
      stands = c.stands;
      more = c.more;
      shown = c.shown;
      x = c.x;
      told = record { x = x; head = row_of k.0; later = c.passed ++ c.more; parts = refl; one = one; two = c.told };
    }

-- A line with a keyword that tells something, as this row does, and what is read after it.
pub completes_head : {A B : Type 0} (keyword : List ℕ) (tell : Kept → Result A ReadError) (next : A × Reading → Result (B × Reading) ReadError) (T : Row → A → Type 0) (U : A → List Row → B → Type 0) (r : Row) (x : A) →
    T r x → IsShownRow r → ((k : Kept) (x : A) → AreSome k.fields → k.keyword ≡ keyword → tell k ≡ Ok x → T (row_of k) x) → InLine tell →
    ((x : A) → Completes (λ p. next (x, p)) (U x)) → Completes (λ p. line_after keyword p >>= λ k. tell k.0 >>= λ x. next (x, k.1)) (Headed T U)
completes_head keyword tell next T U r x told shown is in_line g =
    let b = (g x).possible in
    let possible : Possible (Headed T U) = record { x = b.x; rows = r ∷ b.rows; told = record { x = x; head = r; later = b.rows; parts = refl; one = told; two = b.told }; shown = All-cons IsShownRow r b.rows shown b.shown } in
    record {
      possible = possible;
      complete = λ p l some e. elim (bind_err (line_after keyword p) (λ k. tell k.0 >>= λ x. next (x, k.1)) (errors.BadLine l) e) [
        | inl w ↦ completed_here (Headed T U) p l (missing_stands keyword p l w) possible
        | inr s ↦ elim (bind_err (tell s.0.0) (λ x. next (x, s.0.1)) (errors.BadLine l) s.2) [
          | inl w ↦ completed_here (Headed T U) p l (read_stands keyword p l s.0 s.1 (in_line s.0.0 l w)) possible
          | inr u ↦ completed_behind keyword T U p l s.0 u.0 s.1 some (λ fields same. is s.0.0 u.0 fields same u.1) (λ more one. (g u.0).complete s.0.1 l more u.2)
        ]
      ];
    }

pub completes_times : {A : Type 0} (read : Reading → Result (A × Reading) ReadError) (T : Row → A → Type 0) (k : ℕ) → Exact read (OneRow T) → Completes read (OneRow T) → Completes (times read k) (Rows T k)
unfolding times
completes_times read T zero exact h = completes_as (λ p. Ok ([], p)) (Nothing []) (Rows T zero) (none_rows T) (completes_none [])
completes_times read T (suc k) exact h =
    completes_as (times read (suc k)) (Then (OneRow T) (λ x. Then (Rows T k) (λ ys. Nothing (x ∷ ys)))) (Rows T (suc k)) (each_more T k)
    (completes_then read (λ x. times read k x.1 >>= λ xs. Ok (x.0 ∷ xs.0, xs.1)) (OneRow T) (λ x. Then (Rows T k) (λ ys. Nothing (x ∷ ys))) exact h
    (λ x rows told. completes_then (times read k) (λ xs. Ok (x ∷ xs.0, xs.1)) (Rows T k) (λ ys. Nothing (x ∷ ys)) (exact_times read T k exact) (completes_times read T k exact h) (λ ys rows told. completes_none (x ∷ ys))))

-- ---- the end
end_by : (taken : List ℕ) (r : Rest) (l : ℕ) → end_of taken r ≡ Err (errors.BadLine l) → StandsAt l r
end_by taken (line k later) l e = cc
end_by taken (bad_byte m c) l e = absurd (cc)
end_by taken (end m) l e = absurd (cc)

-- a line behind the last one
pub end_stands : (p : Reading) (l : ℕ) → end_after p ≡ Err (errors.BadLine l) → StandsAt l p.rest
unfolding end_after
end_stands p l e = end_by p.taken p.rest l e
