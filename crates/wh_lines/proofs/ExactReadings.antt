-- Readings that give exactly what rows tell: for the laws on which texts are read.
use Rattle.std.proofs.Common.{◌≡◌, ℕ, suc, zero, List, [], ◌∷◌, ◌++◌, length, map, refl, sym, ap, ◌∙◌, subst, arith, append-nil, Result, Ok}
use Rattle.wh_lines.specs.declared.read_error.ReadError.{ReadError}
use Rattle.wh_lines.specs.Readings.{◌>>=◌}
use Rattle.wh_lines.specs.Rows.{Row}
use Rattle.wh_lines.specs.Laws.{EachRow}
use Rattle.wh_lines.specs.KeptLines.{Kept}
use Rattle.wh_lines.specs.KeptLines.Rest.{line}
use Rattle.wh_lines.specs.LineReadings.{Reading, line_after, times}
use Rattle.wh_lines.proofs.Equations.{bind_ok, ok_is}
use Rattle.wh_lines.proofs.FieldLaws.{AreSome}
use Rattle.wh_lines.proofs.NextLines.{behind, line_told, line_there}
use Rattle.wh_lines.proofs.RowReadings.{Tells, Passes, passes_split, passes_append}
use Rattle.wh_lines.proofs.RestRows.{AllSome, kept_row}

-- The row of a line.
abbrev pub row_of : Kept → Row
row_of k = record { keyword = k.keyword; fields = map (λ f. f.bytes) k.fields }

-- From p to q these rows are told, which tell x.
pub record Spelled {A : Type 0} (S : List Row → A → Type 0) (p q : Reading) (x : A) : Type 0 where
  pub rows : List Row
  pub passes : Passes rows p q
  pub told : S rows x
  pub some : AllSome q.rest

-- What is read is told by rows, and what rows tell is read.
pub record Exact {A : Type 0} (read : Reading → Result (A × Reading) ReadError) (S : List Row → A → Type 0) : Type 0 where
  pub is : (p q : Reading) (x : A) → AllSome p.rest → read p ≡ Ok (x, q) → Spelled S p q x
  pub back : (p q : Reading) (x : A) (rows : List Row) → S rows x → Passes rows p q → read p ≡ Ok (x, q)

-- The rows of one reading and those of the next.
pub record Then {A B : Type 0} (S : List Row → A → Type 0) (U : A → List Row → B → Type 0) (rows : List Row) (z : B) : Type 0 where
  pub x : A
  pub first : List Row
  pub second : List Row
  pub parts : rows ≡ first ++ second
  pub one : S first x
  pub two : U x second z

-- A row, and the rows after it.
pub record Headed {A B : Type 0} (T : Row → A → Type 0) (U : A → List Row → B → Type 0) (rows : List Row) (z : B) : Type 0 where
  pub x : A
  pub head : Row
  pub later : List Row
  pub parts : rows ≡ head ∷ later
  pub one : T head x
  pub two : U x later z

-- No row.
pub record Nothing {A : Type 0} (y : A) (rows : List Row) (z : A) : Type 0 where
  pub none : rows ≡ []
  pub same : y ≡ z

pub exact_none : {A : Type 0} (y : A) → Exact (λ p. Ok (y, p)) (Nothing y)
exact_none y = record {
  is = λ p q x some e.
      let same = ok_is (y, p) (x, q) e in
      record { rows = []; passes = ap (λ a. a.1) same; told = record { none = refl; same = ap (λ a. a.0) same }; some = subst (λ (r : Reading). AllSome r.rest) (ap (λ a. a.1) same) some };
  back = λ p q x rows told passes.
      let here : p ≡ q = subst (λ (rs : List Row). Passes rs p q) told.none passes in
      ap (λ v. Ok (v, p)) told.same ∙ ap (λ v. Ok (x, v)) here;
}

-- What is read next may rest on what the first rows tell.
pub exact_when : {A B : Type 0} (read : Reading → Result (A × Reading) ReadError) (next : A × Reading → Result (B × Reading) ReadError) (S : List Row → A → Type 0) (U : A → List Row → B → Type 0) →
    Exact read S → ((x : A) (rows : List Row) → S rows x → Exact (λ p. next (x, p)) (U x)) → Exact (λ p. read p >>= next) (Then S U)
exact_when read next S U h g = record {
  is = λ p q z some e.
      let a = bind_ok (read p) next (z, q) e in
      let first = h.is p a.0.1 a.0.0 some a.1 in
      let second = (g a.0.0 first.rows first.told).is a.0.1 q z first.some a.2 in
      record {
        rows = first.rows ++ second.rows;
        passes = passes_append first.rows second.rows p a.0.1 q first.passes second.passes;
        told = record { x = a.0.0; first = first.rows; second = second.rows; parts = refl; one = first.told; two = second.told };
        some = second.some;
      };
  back = λ p q z rows told passes.
      let s = passes_split told.first told.second p q (subst (λ (rs : List Row). Passes rs p q) told.parts passes) in
      ap (λ r. r >>= next) (h.back p s.0 told.x told.first told.one s.1) ∙ (g told.x told.first told.one).back s.0 q z told.second told.two s.2;
}

pub exact_then : {A B : Type 0} (read : Reading → Result (A × Reading) ReadError) (next : A × Reading → Result (B × Reading) ReadError) (S : List Row → A → Type 0) (U : A → List Row → B → Type 0) →
    Exact read S → ((x : A) → Exact (λ p. next (x, p)) (U x)) → Exact (λ p. read p >>= next) (Then S U)
exact_then read next S U h g = exact_when read next S U h (λ x rows told. g x)

-- A line with a keyword that tells something, and what is read after it.
pub exact_head : {A B : Type 0} (keyword : List ℕ) (tell : Kept → Result A ReadError) (next : A × Reading → Result (B × Reading) ReadError) (T : Row → A → Type 0) (U : A → List Row → B → Type 0) →
    ((k : Kept) (x : A) → AreSome k.fields → k.keyword ≡ keyword → tell k ≡ Ok x → T (row_of k) x) →
    ((r : Row) (k : Kept) (x : A) → Tells r k → T r x → (r.keyword ≡ keyword) × (tell k ≡ Ok x)) →
    ((x : A) → Exact (λ p. next (x, p)) (U x)) → Exact (λ p. line_after keyword p >>= λ k. tell k.0 >>= λ x. next (x, k.1)) (Headed T U)
exact_head keyword tell next T U is back later = record {
  is = λ p q z some e.
      let a = bind_ok (line_after keyword p) (λ k. tell k.0 >>= λ x. next (x, k.1)) (z, q) e in
      let line_is = line_told keyword p a.0 a.1 in
      let b = bind_ok (tell a.0.0) (λ x. next (x, a.0.1)) (z, q) a.2 in
      let all : AllSome (line a.0.0 a.0.1.rest) = subst AllSome line_is.0 some in
      let rest = (later b.0).is a.0.1 q z all.1 b.2 in
      let place : a.0.1 ≡ behind p a.0.0 a.0.1.rest = ap (λ ns. record { taken = ns; rest = a.0.1.rest }) line_is.1 in
      record {
        rows = row_of a.0.0 ∷ rest.rows;
        passes = (a.0.0, a.0.1.rest, line_is.0, kept_row a.0.0 all.0, subst (λ (r : Reading). Passes rest.rows r q) place rest.passes);
        told = record { x = b.0; head = row_of a.0.0; later = rest.rows; parts = refl; one = is a.0.0 b.0 all.0 line_is.2 b.1; two = rest.told };
        some = rest.some;
      };
  back = λ p q z rows told passes.
      let s : Passes (told.head ∷ told.later) p q = subst (λ (rs : List Row). Passes rs p q) told.parts passes in
      let t = back told.head s.0 told.x s.3 told.one in
      ap (λ r. r >>= λ k. tell k.0 >>= λ x. next (x, k.1)) (line_there keyword p s.0 s.1 s.2 (s.3.keyword ∙ t.0))
      ∙ ap (λ r. r >>= λ x. next (x, behind p s.0 s.1)) t.1
      ∙ (later told.x).back (behind p s.0 s.1) q z told.later told.two s.4;
}

-- What rows tell is seen in another way.
pub exact_as : {A : Type 0} (read : Reading → Result (A × Reading) ReadError) (S T : List Row → A → Type 0) → ((rows : List Row) (x : A) → S rows x → T rows x) → ((rows : List Row) (x : A) → T rows x → S rows x) → Exact read S → Exact read T
exact_as read S T there again h = record {
  is = λ p q x some e. let s = h.is p q x some e in record { rows = s.rows; passes = s.passes; told = there s.rows x s.told; some = s.some };
  back = λ p q x rows told passes. h.back p q x rows (again rows x told) passes;
}

-- ---- so many readings of a line
-- One row.
pub record OneRow {A : Type 0} (T : Row → A → Type 0) (rows : List Row) (x : A) : Type 0 where
  pub row : Row
  pub parts : rows ≡ row ∷ []
  pub one : T row x

pub exact_line : {A : Type 0} (keyword : List ℕ) (tell : Kept → Result A ReadError) (T : Row → A → Type 0) →
    ((k : Kept) (x : A) → AreSome k.fields → k.keyword ≡ keyword → tell k ≡ Ok x → T (row_of k) x) →
    ((r : Row) (k : Kept) (x : A) → Tells r k → T r x → (r.keyword ≡ keyword) × (tell k ≡ Ok x)) →
    Exact (λ p. line_after keyword p >>= λ k. tell k.0 >>= λ x. Ok (x, k.1)) (OneRow T)
exact_line keyword tell T is back =
    exact_as (λ p. line_after keyword p >>= λ k. tell k.0 >>= λ x. Ok (x, k.1)) (Headed T Nothing) (OneRow T)
    (λ rows x s. record { row = s.head; parts = s.parts ∙ ap (λ rs. s.head ∷ rs) s.two.none; one = subst (T s.head) s.two.same s.one })
    (λ rows x s. record { x = x; head = s.row; later = []; parts = s.parts; one = s.one; two = record { none = refl; same = refl } })
    (exact_head keyword tell (λ a. Ok a) T Nothing is back exact_none)

-- So many rows, one for each.
pub record Rows {A : Type 0} (T : Row → A → Type 0) (k : ℕ) (rows : List Row) (xs : List A) : Type 0 where
  pub each : EachRow T rows xs
  pub count : length xs ≡ k

pub each_more : {A : Type 0} (T : Row → A → Type 0) (k : ℕ) (rows : List Row) (xs : List A) (s : Then (OneRow T) (λ x. Then (Rows T k) (λ ys. Nothing (x ∷ ys))) rows xs) → Rows T (suc k) rows xs
each_more {A = A} T k rows xs s =
    let more : s.x ∷ s.two.x ≡ xs = s.two.two.same in
    let parts : rows ≡ s.one.row ∷ s.two.first =
    s.parts ∙ ap (λ rs. rs ++ s.second) s.one.parts ∙ ap (λ rs. s.one.row ∷ rs) (s.two.parts ∙ ap (λ rs. s.two.first ++ rs) s.two.two.none ∙ append-nil s.two.first) in
    subst (λ (ys : List A). Rows T (suc k) rows ys) more
    (subst (λ (rs : List Row). Rows T (suc k) rs (s.x ∷ s.two.x)) (sym parts) (record { each = (s.one.one, s.two.one.each); count = omega (arith, s.two.one.count) }))

each_back : {A : Type 0} (T : Row → A → Type 0) (k : ℕ) (rows : List Row) (xs : List A) → Rows T (suc k) rows xs → Then (OneRow T) (λ x. Then (Rows T k) (λ ys. Nothing (x ∷ ys))) rows xs
each_back T k [] [] s = absurd (omega (arith, s.count))
each_back T k [] (x ∷ xs) s = absurd s.each
each_back T k (r ∷ rows) [] s = absurd s.each
each_back T k (r ∷ rows) (x ∷ xs) s = record {
  x = x;
  first = r ∷ [];
  second = rows;
  parts = refl;
  one = record { row = r; parts = refl; one = s.each.0 };
  two = record {
    x = xs;
    first = rows;
    second = [];
    parts = sym (append-nil rows);
    one = record { each = s.each.1; count = omega (arith, s.count) };
    two = record { none = refl; same = refl };
  };
}

no_rows : {A : Type 0} (T : Row → A → Type 0) (rows : List Row) (xs : List A) → Rows T zero rows xs → Nothing [] rows xs
no_rows T [] [] s = record { none = refl; same = refl }
no_rows T [] (x ∷ xs) s = absurd s.each
no_rows T (r ∷ rows) [] s = absurd s.each
no_rows T (r ∷ rows) (x ∷ xs) s = absurd (omega (arith, s.count))

pub none_rows : {A : Type 0} (T : Row → A → Type 0) (rows : List Row) (xs : List A) → Nothing [] rows xs → Rows T zero rows xs
none_rows {A = A} T rows xs s = subst (λ (ys : List A). Rows T zero rows ys) s.same (subst (λ (rs : List Row). Rows T zero rs []) (sym s.none) (record { each = tt; count = refl }))

pub exact_times : {A : Type 0} (read : Reading → Result (A × Reading) ReadError) (T : Row → A → Type 0) (k : ℕ) → Exact read (OneRow T) → Exact (times read k) (Rows T k)
unfolding times
exact_times read T zero h = exact_as (λ p. Ok ([], p)) (Nothing []) (Rows T zero) (none_rows T) (no_rows T) (exact_none [])
exact_times read T (suc k) h =
    exact_as (times read (suc k)) (Then (OneRow T) (λ x. Then (Rows T k) (λ ys. Nothing (x ∷ ys)))) (Rows T (suc k)) (each_more T k) (each_back T k)
    (exact_then read (λ x. times read k x.1 >>= λ xs. Ok (x.0 ∷ xs.0, xs.1)) (OneRow T) (λ x. Then (Rows T k) (λ ys. Nothing (x ∷ ys))) h
    (λ x. exact_then (times read k) (λ xs. Ok (x ∷ xs.0, xs.1)) (Rows T k) (λ ys. Nothing (x ∷ ys)) (exact_times read T k h) (λ ys. exact_none (x ∷ ys))))
