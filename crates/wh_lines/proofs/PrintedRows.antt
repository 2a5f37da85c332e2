-- Lines that are printed as a keyword and fields, each field after one space, and what is read of such lines: for the law on printed answers.
use Rattle.std.proofs.Common.{◌≡◌, ◌≢◌, ℕ, ◌≤◌, ◌==◌, true, false, List, [], ◌∷◌, ◌++◌, map, sym, ap, ◌∙◌, refl, subst, arith, append-nil, append_assoc}
use Rattle.std.specs.Prelude.{◌||◌, ◌&&◌, codes}
use Rattle.std.specs.List.{All, list_all}
use Rattle.std.proofs.lemmas.Grind.{flat_map-append}
use Rattle.std.proofs.lemmas.List.Elements.{All-nil, All-cons, All-head, All-tail, All-append, All-weaker, All-map}
use Rattle.std.proofs.lemmas.Bool.Decides.{nat_tests}
use Rattle.wh_lines.specs.Lines.{lines, is_allowed, is_comment, fields}
use Rattle.wh_lines.specs.Laws.{is_skipped, IsLine, IsClean, IsField, HasFields, ended}
use Rattle.wh_lines.specs.Rows.{Row, fields_text, row_bytes, row_text, rows_text}
use Rattle.wh_lines.specs.Laws.HasFields.{last, field}
use Rattle.wh_lines.proofs.Scanning.{eq_false}
use Rattle.wh_lines.proofs.LineLaws.{reads_lines}
use Rattle.wh_lines.proofs.FieldLaws.{reads_fields}

-- All that is printed in fields lies between `0` and `z`. There is neither a space nor `#`.
abbrev pub IsShownByte : ℕ → Type 0
IsShownByte b = (48 ≤ b) × (b ≤ 122)

-- A field of such bytes. It isn't empty.
pub record IsShown (f : List ℕ) : Type 0 where
  pub some : f ≢ []
  pub bytes : All IsShownByte f

pub record IsShownRow (r : Row) : Type 0 where
  pub keyword : IsShown r.keyword
  pub fields : All IsShown r.fields

-- ---- the bytes of a row
spaced_all : (P : ℕ → Type 0) → P 32 → ((b : ℕ) → IsShownByte b → P b) → (fs : List (List ℕ)) → All IsShown fs → All P (fields_text fs)
spaced_all P space shown [] a = All-nil P
spaced_all P space shown (f ∷ fs) a =
    All-append P (32 ∷ f) (fields_text fs) (All-cons P 32 f space (All-weaker IsShownByte P shown f (All-head IsShown f fs a).bytes))
    (spaced_all P space shown fs (All-tail IsShown f fs a))

row_all : (P : ℕ → Type 0) → P 32 → ((b : ℕ) → IsShownByte b → P b) → (r : Row) → IsShownRow r → All P (row_bytes r)
row_all P space shown r h =
    All-append P r.keyword (fields_text r.fields) (All-weaker IsShownByte P shown r.keyword h.keyword.bytes) (spaced_all P space shown r.fields h.fields)

shown_allowed : (b : ℕ) → IsShownByte b → is_allowed b ≡ true
shown_allowed b h = grind (arith, nat_tests)

pub row_clean : (r : Row) → IsShownRow r → IsClean (row_bytes r)
row_clean r h = row_all (λ b. is_allowed b ≡ true) refl shown_allowed r h

row_line : (r : Row) → IsShownRow r → IsLine (row_bytes r)
row_line r h = row_all (λ b. b ≢ 10) (λ e. omega (arith, e)) (λ b s e. omega (arith, s.0, e)) r h

-- ---- the fields of a row
shown_field : (f : List ℕ) → IsShown f → IsField f
shown_field f h = record { some = h.some; solid = All-weaker IsShownByte (λ b. b ≢ 32) (λ b s e. omega (arith, s.0, e)) f h.bytes }

has_fields : (keyword : List ℕ) (fs : List (List ℕ)) → IsShown keyword → All IsShown fs → HasFields (keyword ∷ fs) (keyword ++ fields_text fs)
has_fields keyword [] h a = subst (HasFields (keyword ∷ [])) (sym (append-nil keyword)) (last keyword (shown_field keyword h))
has_fields keyword (f ∷ fs) h a = field keyword (shown_field keyword h) (has_fields f fs (All-head IsShown f fs a) (All-tail IsShown f fs a))

pub row_fields : (r : Row) → IsShownRow r → map (λ f. f.bytes) (fields 1 (row_bytes r)) ≡ r.keyword ∷ r.fields
row_fields r h = (reads_fields (r.keyword ∷ r.fields) (row_bytes r)).1 (has_fields r.keyword r.fields h.keyword h.fields)

-- ---- a row is kept
no_comment : (keyword rest : List ℕ) → IsShown keyword → is_comment (keyword ++ rest) ≡ false
no_comment [] rest h = absurd (h.some refl)
no_comment (b ∷ bs) rest h = eq_false b 35 (λ e. omega (arith, (All-head IsShownByte b bs h.bytes).0, e))

not_blank : (keyword rest : List ℕ) → IsShown keyword → list_all (λ b. b == 32) (keyword ++ rest) ≡ false
not_blank [] rest h = absurd (h.some refl)
not_blank (b ∷ bs) rest h = ap (λ t. t && list_all (λ b. b == 32) (bs ++ rest)) (eq_false b 32 (λ e. omega (arith, (All-head IsShownByte b bs h.bytes).0, e)))

pub row_kept : (r : Row) → IsShownRow r → is_skipped (row_bytes r) ≡ false
row_kept r h =
    let rest = fields_text r.fields in
    ap (λ t. t || list_all (λ b. b == 32) (r.keyword ++ rest)) (no_comment r.keyword rest h.keyword) ∙ not_blank r.keyword rest h.keyword

-- ---- the lines of rows
-- each line is ended
pub rows_ended : (rows : List Row) → rows_text rows ≡ ended (map row_bytes rows)
rows_ended [] = refl
rows_ended (r ∷ rows) = append_assoc (row_bytes r) (codes "\n") (rows_text rows) ∙ ap (λ v. row_bytes r ++ 10 ∷ v) (rows_ended rows)

pub rows_lines : (rows : List Row) → All IsShownRow rows → lines (rows_text rows) ≡ map row_bytes rows
rows_lines rows a = ap lines (rows_ended rows) ∙ reads_lines.whole (map row_bytes rows) (All-map IsLine row_bytes rows (All-weaker IsShownRow (λ r. IsLine (row_bytes r)) row_line rows a))

-- the text of rows and others
pub rows_append : (rows more : List Row) → rows_text (rows ++ more) ≡ rows_text rows ++ rows_text more
rows_append rows more = flat_map-append row_text rows more
