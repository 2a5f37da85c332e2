-- Lines that tell rows, and what is read of them: for the laws on whole texts.
use Rattle.std.proofs.Common.{◌≡◌, ℕ, suc, zero, List, [], ◌∷◌, ◌++◌, map, refl, sym, ap, ◌∙◌, subst, Result, Ok}
use Rattle.std.specs.List.{All}
use Rattle.std.proofs.lemmas.List.Elements.{All-nil, All-cons, All-head, All-tail, All-append}
use Rattle.wh_lines.specs.declared.read_error.ReadError.{ReadError}
use Rattle.wh_lines.specs.Lines.{Field}
use Rattle.wh_lines.specs.Readings.{◌>>=◌}
use Rattle.wh_lines.specs.KeptLines.{Kept, Rest}
use Rattle.wh_lines.specs.KeptLines.Rest.{line}
use Rattle.wh_lines.specs.LineReadings.{Reading, line_after, times}
use Rattle.wh_lines.proofs.FieldLaws.{AreSome}
use Rattle.wh_lines.proofs.NextLines.{behind, line_there}
use Rattle.wh_lines.specs.Rows.{Row}
use Rattle.wh_lines.proofs.PrintedRows.{IsShown, IsShownRow}

-- ---- lines that tell rows
-- The line has the keyword and the fields of the row.
pub record Tells (r : Row) (k : Kept) : Type 0 where
  pub keyword : k.keyword ≡ r.keyword
  pub some : AreSome k.fields
  pub same : map (λ f. f.bytes) k.fields ≡ r.fields

-- The lines from p to q tell these rows.
abbrev pub Passes : List Row → Reading → Reading → Type 0
Passes [] p q = p ≡ q
Passes (r ∷ rows) p q = (k : Kept) × (later : Rest) × (p.rest ≡ line k later) × Tells r k × Passes rows (behind p k later) q

pub passes_split : (rows more : List Row) (p q : Reading) → Passes (rows ++ more) p q → (m : Reading) × Passes rows p m × Passes more m q
passes_split [] more p q h = (p, refl, h)
passes_split (r ∷ rows) more p q h =
    let s = passes_split rows more (behind p h.0 h.1) q h.4 in
    (s.0, (h.0, h.1, h.2, h.3, s.1), s.2)

pub passes_append : (rows more : List Row) (p m q : Reading) → Passes rows p m → Passes more m q → Passes (rows ++ more) p q
passes_append [] more p m q h g = subst (λ (x : Reading). Passes more x q) (sym h) g
passes_append (r ∷ rows) more p m q h g = (h.0, h.1, h.2, h.3, passes_append rows more (behind p h.0 h.1) m q h.4 g)

-- ---- readings of rows
-- Where these rows are told, x is read, and nothing more.
pub record ReadsRows {A : Type 0} (read : Reading → Result (A × Reading) ReadError) (x : A) (rows : List Row) : Type 0 where
  pub shown : All IsShownRow rows
  pub told : (p q : Reading) → Passes rows p q → read p ≡ Ok (x, q)

-- Nothing has to be read.
pub reads_none : {A : Type 0} (read : Reading → Result (A × Reading) ReadError) (x : A) → ((p : Reading) → read p ≡ Ok (x, p)) → ReadsRows read x []
reads_none read x h = record { shown = All-nil IsShownRow; told = λ p q same. h p ∙ ap (λ m. Ok (x, m)) same }

-- fields of these texts
pub columns : List (List ℕ) → List Field
columns [] = []
columns (f ∷ fs) = record { column = 0; bytes = f } ∷ columns fs

columns_some : (fs : List (List ℕ)) → All IsShown fs → AreSome (columns fs)
unfolding columns
columns_some [] a = All-nil (λ f. f.bytes ≡ [] → ⊥)
columns_some (f ∷ fs) a = All-cons (λ f. f.bytes ≡ [] → ⊥) (record { column = 0; bytes = f }) (columns fs) (All-head IsShown f fs a).some (columns_some fs (All-tail IsShown f fs a))

pub columns_are : (fs : List (List ℕ)) → map (λ f. f.bytes) (columns fs) ≡ fs
unfolding columns
columns_are [] = refl
columns_are (f ∷ fs) = ap (λ gs. f ∷ gs) (columns_are fs)

-- some line tells a row
line_of_row : (r : Row) → IsShownRow r → (k : Kept) × Tells r k
line_of_row r h = (record { number = 0; keyword = r.keyword; fields = columns r.fields }, record { keyword = refl; some = columns_some r.fields h.fields; same = columns_are r.fields })

-- A row, and what is read after it.
pub row_then : {B : Type 0} (r : Row) (next : Kept × Reading → Result (B × Reading) ReadError) (y : B) (rows : List Row) → IsShownRow r →
    ((k : Kept) → Tells r k → ReadsRows (λ p. next (k, p)) y rows) → ReadsRows (λ p. line_after r.keyword p >>= next) y (r ∷ rows)
row_then r next y rows h later =
    let some = line_of_row r h in
    record {
      shown = All-cons IsShownRow r rows h (later some.0 some.1).shown;
      told = λ p q passes.
          ap (λ k. k >>= next) (line_there r.keyword p passes.0 passes.1 passes.2 passes.3.keyword)
          ∙ (later passes.0 passes.3).told (behind p passes.0 passes.1) q passes.4;
    }

-- What is read after some rows.
pub reads_then : {A B : Type 0} (read : Reading → Result (A × Reading) ReadError) (next : A × Reading → Result (B × Reading) ReadError) (x : A) (y : B) (rows more : List Row) →
    ReadsRows read x rows → ReadsRows (λ p. next (x, p)) y more → ReadsRows (λ p. read p >>= next) y (rows ++ more)
reads_then read next x y rows more h later = record {
  shown = All-append IsShownRow rows more h.shown later.shown;
  told = λ p q passes.
      let s = passes_split rows more p q passes in
      ap (λ k. k >>= next) (h.told p s.0 s.1) ∙ later.told s.0 q s.2;
}

-- What is told by these rows is seen in another way.
pub reads_as : {A B : Type 0} (read : Reading → Result (A × Reading) ReadError) (next : A × Reading → Result (B × Reading) ReadError) (x : A) (y : B) (rows : List Row) →
    ReadsRows read x rows → ((p : Reading) → next (x, p) ≡ Ok (y, p)) → ReadsRows (λ p. read p >>= next) y rows
reads_as read next x y rows h seen = record { shown = h.shown; told = λ p q passes. ap (λ k. k >>= next) (h.told p q passes) ∙ seen q }

-- The rows are read in the same way.
pub reads_by : {A : Type 0} (read other : Reading → Result (A × Reading) ReadError) (x : A) (rows : List Row) → ((p : Reading) → other p ≡ read p) → ReadsRows read x rows → ReadsRows other x rows
reads_by read other x rows e h = record { shown = h.shown; told = λ p q passes. e p ∙ h.told p q passes }

-- ---- so many readings
pub times_none : {A : Type 0} (read : Reading → Result (A × Reading) ReadError) → ReadsRows (times read zero) [] []
unfolding times
times_none read = reads_none (times read zero) [] (λ p. refl)

pub times_more : {A : Type 0} (read : Reading → Result (A × Reading) ReadError) (k : ℕ) (x : A) (xs : List A) (rows more : List Row) →
    ReadsRows read x rows → ReadsRows (times read k) xs more → ReadsRows (times read (suc k)) (x ∷ xs) (rows ++ more)
unfolding times
times_more read k x xs rows more h later =
    reads_then read (λ a. times read k a.1 >>= λ xs. Ok (a.0 ∷ xs.0, xs.1)) x (x ∷ xs) rows more h
    (reads_as (times read k) (λ xs. Ok (x ∷ xs.0, xs.1)) xs (x ∷ xs) more later (λ p. refl))
