-- The rows that a text tells, from its lines: for the laws on whole texts.
use Rattle.std.proofs.Common.{◌≡◌, ℕ, ◌+◌, Bool, true, false, cond, List, [], ◌∷◌, ◌++◌, length, map, refl, sym, ap, ◌∙◌, append_assoc, append-nil, subst, None, Some}
use Rattle.std.specs.Prelude.{◌||◌}
use Rattle.std.specs.declared.option.Option.{Option}
use Rattle.std.specs.List.{All}
use Rattle.std.proofs.lemmas.List.Elements.{All-nil, All-cons, All-head, All-tail}
use Rattle.std.proofs.lemmas.Bool.{cond-true, cond-false, false≢true}
use Rattle.wh_lines.specs.Lines.{Field, bad_at, is_comment, fields}
use Rattle.wh_lines.specs.KeptLines.{Kept, Rest, rest, line_fields, kept_or, unless_bad}
use Rattle.wh_lines.specs.KeptLines.Rest.{line, bad_byte, end}
use Rattle.wh_lines.specs.LineReadings.{Reading}
use Rattle.wh_lines.specs.Laws.{IsClean, is_skipped, kept_lines, kept_numbers, field_texts, numbers_from, texts_of}
use Rattle.wh_lines.proofs.SkippedLines.{bad_clean, clean_bad, is_none, skipped_is}
use Rattle.wh_lines.proofs.FieldLaws.{AreSome, rest_some}
use Rattle.wh_lines.proofs.NextLines.{behind}
use Rattle.wh_lines.specs.Rows.{Row, row_bytes}
use Rattle.wh_lines.proofs.PrintedRows.{IsShownRow, row_fields, row_clean, row_kept}
use Rattle.wh_lines.proofs.RowReadings.{Tells, Passes}

-- All that is left tells these rows, and no byte of it is bad.
abbrev pub Holds : Rest → List Row → Type 0
Holds (line k later) [] = ⊥
Holds (line k later) (r ∷ rows) = Tells r k × Holds later rows
Holds (bad_byte l c) rows = ⊥
Holds (end l) [] = Unit {0}
Holds (end l) (r ∷ rows) = ⊥

pub kept_row : (k : Kept) → AreSome k.fields → Tells (record { keyword = k.keyword; fields = map (λ f. f.bytes) k.fields }) k
kept_row k h = record { keyword = refl; some = h; same = refl }

-- no line that is left has an empty field
abbrev pub AllSome : Rest → Type 0
AllSome (line k later) = AreSome k.fields × AllSome later
AllSome (bad_byte l c) = Unit {0}
AllSome (end l) = Unit {0}

-- ---- a line
-- a skipped line is nothing, and another one is a line with its fields
pub record IsOf (bytes : List ℕ) (k : Kept) : Type 0 where
  pub texts : k.keyword ∷ map (λ f. f.bytes) k.fields ≡ field_texts bytes
  pub some : AreSome k.fields

pub data LineCase (l : ℕ) (bytes : List ℕ) : Type 0 where
  skipped : is_skipped bytes ≡ true → ((later : Rest) → kept_or l (line_fields bytes) later ≡ later) → LineCase l bytes
  kept : is_skipped bytes ≡ false → (k : Kept) → k.number ≡ l → IsOf bytes k → ((later : Rest) → kept_or l (line_fields bytes) later ≡ line k later) → LineCase l bytes

case_by : (l : ℕ) (bytes : List ℕ) (t : Bool) (fs : List Field) → is_comment bytes ≡ t → fields 1 bytes ≡ fs → LineCase l bytes
case_by l bytes true fs c e =
    skipped (skipped_is bytes ∙ ap (λ t. t || is_none (fields 1 bytes)) c) (λ later. ap (λ t. kept_or l (cond t [] (fields 1 bytes)) later) c)
case_by l bytes false [] c e =
    skipped (skipped_is bytes ∙ ap (λ t. t || is_none (fields 1 bytes)) c ∙ ap is_none e) (λ later. ap (λ t. kept_or l (cond t [] (fields 1 bytes)) later) c ∙ ap (λ fs. kept_or l fs later) e)
case_by l bytes false (f ∷ fs) c e =
    kept (skipped_is bytes ∙ ap (λ t. t || is_none (fields 1 bytes)) c ∙ ap is_none e) (record { number = l; keyword = f.bytes; fields = fs }) refl
    (record { texts = sym (ap (map (λ f. f.bytes)) e); some = rest_some bytes f fs e })
    (λ later. ap (λ t. kept_or l (cond t [] (fields 1 bytes)) later) c ∙ ap (λ fs. kept_or l fs later) e)

pub line_case : (l : ℕ) (bytes : List ℕ) → LineCase l bytes
line_case l bytes = case_by l bytes (is_comment bytes) (fields 1 bytes) refl refl

-- a line of clean bytes
clean_line : (l : ℕ) (bytes : List ℕ) (ls : List (List ℕ)) → IsClean bytes → rest l (bytes ∷ ls) ≡ kept_or l (line_fields bytes) (rest (l + 1) ls)
unfolding rest
clean_line l bytes ls h = ap (λ o. unless_bad l o (kept_or l (line_fields bytes) (rest (l + 1) ls))) (clean_bad 1 bytes h)

unless_by : (l : ℕ) (r : Rest) (rows : List Row) (o : Option ℕ) → Holds (unless_bad l o r) rows → (o ≡ None) × Holds r rows
unless_by l r rows None h = (refl, h)
unless_by l r rows (Some c) h = absurd h

holds_line : (l : ℕ) (bytes : List ℕ) (ls : List (List ℕ)) (rows : List Row) → Holds (rest l (bytes ∷ ls)) rows → IsClean bytes × Holds (kept_or l (line_fields bytes) (rest (l + 1) ls)) rows
unfolding rest
holds_line l bytes ls rows h =
    let p = unless_by l (kept_or l (line_fields bytes) (rest (l + 1) ls)) rows (bad_at 1 bytes) h in
    (bad_clean 1 bytes p.0, p.1)

-- ---- lines
-- These clean lines have these rows.
pub record HaveRows (ls : List (List ℕ)) (rows : List Row) : Type 0 where
  pub clean : All IsClean ls
  pub texts : map field_texts (kept_lines ls) ≡ map texts_of rows

pub have_none : HaveRows [] []
have_none = record { clean = All-nil IsClean; texts = refl }

pub have_skipped : (bytes : List ℕ) (ls : List (List ℕ)) (rows : List Row) → IsClean bytes → is_skipped bytes ≡ true → HaveRows ls rows → HaveRows (bytes ∷ ls) rows
have_skipped bytes ls rows clean s h = record {
  clean = All-cons IsClean bytes ls clean h.clean;
  texts = ap (map field_texts) (cond-true (is_skipped bytes) (kept_lines ls) (bytes ∷ kept_lines ls) s) ∙ h.texts;
}

pub have_line : (bytes : List ℕ) (ls : List (List ℕ)) (r : Row) (rows : List Row) → IsClean bytes → is_skipped bytes ≡ false → field_texts bytes ≡ texts_of r → HaveRows ls rows → HaveRows (bytes ∷ ls) (r ∷ rows)
have_line bytes ls r rows clean s t h = record {
  clean = All-cons IsClean bytes ls clean h.clean;
  texts = ap (map field_texts) (cond-false (is_skipped bytes) (kept_lines ls) (bytes ∷ kept_lines ls) s) ∙ ap (λ ts. ts ∷ map field_texts (kept_lines ls)) t ∙ ap (λ tss. texts_of r ∷ tss) h.texts;
}

-- the row of a line that tells one
pub texts_told : (bytes : List ℕ) (k : Kept) (r : Row) → IsOf bytes k → Tells r k → field_texts bytes ≡ texts_of r
texts_told bytes k r is tells = sym is.texts ∙ ap (λ w. w ∷ map (λ f. f.bytes) k.fields) tells.keyword ∙ ap (λ ws. r.keyword ∷ ws) tells.same

have_kept : (bytes : List ℕ) (k : Kept) (later : Rest) (ls : List (List ℕ)) (rows : List Row) → IsClean bytes → is_skipped bytes ≡ false → IsOf bytes k →
    Holds (line k later) rows → ((more : List Row) → Holds later more → HaveRows ls more) → HaveRows (bytes ∷ ls) rows
have_kept bytes k later ls [] clean s is h rec = absurd h
have_kept bytes k later ls (r ∷ rows) clean s is h rec = have_line bytes ls r rows clean s (texts_told bytes k r is h.0) (rec rows h.1)

pub holds_is : (l : ℕ) (ls : List (List ℕ)) (rows : List Row) → Holds (rest l ls) rows → HaveRows ls rows
unfolding rest
holds_is l [] [] h = have_none
holds_is l [] (r ∷ rows) h = absurd h
holds_is l (bytes ∷ ls) rows h =
    let p = holds_line l bytes ls rows h in
    elim (line_case l bytes) [
      | skipped s same ↦ have_skipped bytes ls rows p.0 s (holds_is (l + 1) ls rows (subst (λ (r : Rest). Holds r rows) (same (rest (l + 1) ls)) p.1))
      | kept s k n is same ↦ have_kept bytes k (rest (l + 1) ls) ls rows p.0 s is (subst (λ (r : Rest). Holds r rows) (same (rest (l + 1) ls)) p.1) (λ more g. holds_is (l + 1) ls more g)
    ]

back_kept : (bytes : List ℕ) (k : Kept) (later : Rest) (rows : List Row) (others : List (List (List ℕ))) → IsOf bytes k → field_texts bytes ∷ others ≡ map texts_of rows →
    ((more : List Row) → others ≡ map texts_of more → Holds later more) → Holds (line k later) rows
back_kept bytes k later [] others t e rec = absurd (cc)
back_kept bytes k later (r ∷ rows) others t e rec =
    let here : k.keyword ∷ map (λ f. f.bytes) k.fields ≡ texts_of r = t.texts ∙ (cc) in
    let more : others ≡ map texts_of rows = (cc) in
    let keyword : k.keyword ≡ r.keyword = (cc) in
    let same : map (λ f. f.bytes) k.fields ≡ r.fields = (cc) in
    (record { keyword = keyword; some = t.some; same = same }, rec rows more)

pub holds_back : (l : ℕ) (ls : List (List ℕ)) (rows : List Row) → HaveRows ls rows → Holds (rest l ls) rows
unfolding rest
holds_back l [] [] h = tt
holds_back l [] (r ∷ rows) h = let e = h.texts in absurd (cc)
holds_back l (bytes ∷ ls) rows h =
    let clean = All-head IsClean bytes ls h.clean in
    let others = All-tail IsClean bytes ls h.clean in
    subst (λ (r : Rest). Holds r rows) (sym (clean_line l bytes ls clean))
    (elim (line_case l bytes) [
      | skipped s same ↦ subst (λ (r : Rest). Holds r rows) (sym (same (rest (l + 1) ls)))
          (holds_back (l + 1) ls rows (record { clean = others; texts = sym (ap (map field_texts) (cond-true (is_skipped bytes) (kept_lines ls) (bytes ∷ kept_lines ls) s)) ∙ h.texts }))
      | kept s k n t same ↦ subst (λ (r : Rest). Holds r rows) (sym (same (rest (l + 1) ls)))
          (back_kept bytes k (rest (l + 1) ls) rows (map field_texts (kept_lines ls)) t (sym (ap (map field_texts) (cond-false (is_skipped bytes) (kept_lines ls) (bytes ∷ kept_lines ls) s)) ∙ h.texts)
          (λ more e. holds_back (l + 1) ls more (record { clean = others; texts = e })))
    ])

-- ---- no field is empty
some_by : (l : ℕ) (r : Rest) (o : Option ℕ) → AllSome r → AllSome (unless_bad l o r)
some_by l r None h = h
some_by l r (Some c) h = tt

pub rest_all_some : (l : ℕ) (ls : List (List ℕ)) → AllSome (rest l ls)
unfolding rest
rest_all_some l [] = tt
rest_all_some l (bytes ∷ ls) =
    some_by l (kept_or l (line_fields bytes) (rest (l + 1) ls)) (bad_at 1 bytes)
    (elim (line_case l bytes) [
      | skipped s same ↦ subst AllSome (sym (same (rest (l + 1) ls))) (rest_all_some (l + 1) ls)
      | kept s k n t same ↦ subst AllSome (sym (same (rest (l + 1) ls))) (t.some, rest_all_some (l + 1) ls)
    ])

-- ---- printed rows
-- the line of a row that is printed
kept_of_row : (l : ℕ) (r : Row) (ls : List (List ℕ)) → IsShownRow r → (k : Kept) × (rest l (row_bytes r ∷ ls) ≡ line k (rest (l + 1) ls)) × (k.number ≡ l) × Tells r k
kept_of_row l r ls h = elim (line_case l (row_bytes r)) [
  | skipped s same ↦ absurd (false≢true (sym (row_kept r h) ∙ s))
  | kept s k n t same ↦ (let e : k.keyword ∷ map (λ f. f.bytes) k.fields ≡ r.keyword ∷ r.fields = t.texts ∙ row_fields r h in
      let keyword : k.keyword ≡ r.keyword = (cc) in
      let fields : map (λ f. f.bytes) k.fields ≡ r.fields = (cc) in
      (k, clean_line l (row_bytes r) ls (row_clean r h) ∙ same (rest (l + 1) ls), n, record { keyword = keyword; some = t.some; same = fields }))
]

pub rows_pass : (l : ℕ) (taken : List ℕ) (rows : List Row) → All IsShownRow rows →
    (m : ℕ) × Passes rows (record { taken = taken; rest = rest l (map row_bytes rows) }) (record { taken = taken ++ numbers_from l (length rows); rest = end m })
unfolding rest
rows_pass l taken [] a = (l, ap (λ ns. record { taken = ns; rest = end l }) (sym (append-nil taken)))
rows_pass l taken (r ∷ rows) a =
    let ls = map row_bytes rows in
    let k = kept_of_row l r ls (All-head IsShownRow r rows a) in
    let later = rows_pass (l + 1) (taken ++ k.0.number ∷ []) rows (All-tail IsShownRow r rows a) in
    let ns = numbers_from (l + 1) (length rows) in
    let numbers : (taken ++ k.0.number ∷ []) ++ ns ≡ taken ++ l ∷ ns = append_assoc taken (k.0.number ∷ []) ns ∙ ap (λ x. taken ++ x ∷ ns) k.2 in (
      later.0,
      (k.0, rest (l + 1) ls, k.1, k.3, subst (λ (xs : List ℕ). Passes rows (record { taken = taken ++ k.0.number ∷ []; rest = rest (l + 1) ls }) (record { taken = xs; rest = end later.0 })) numbers later.1),
    )

-- ---- the numbers of lines
-- all that is left is passed, and its numbers are taken
pub holds_passes : (l : ℕ) (taken : List ℕ) (ls : List (List ℕ)) (rows : List Row) → Holds (rest l ls) rows →
    (m : ℕ) × Passes rows (record { taken = taken; rest = rest l ls }) (record { taken = taken ++ kept_numbers l ls; rest = end m })
unfolding rest
holds_passes l taken [] [] h = (l, ap (λ ns. record { taken = ns; rest = end l }) (sym (append-nil taken)))
holds_passes l taken [] (r ∷ rows) h = absurd h
holds_passes l taken (bytes ∷ ls) rows h =
    let p = holds_line l bytes ls rows h in
    let later = rest (l + 1) ls in
    elim (line_case l bytes) [
      | skipped s same ↦ (let q = holds_passes (l + 1) taken ls rows (subst (λ (r : Rest). Holds r rows) (same later) p.1) in (
        q.0,
        subst (λ (r : Rest). Passes rows (record { taken = taken; rest = r }) (record { taken = taken ++ kept_numbers l (bytes ∷ ls); rest = end q.0 })) (sym (clean_line l bytes ls p.0 ∙ same later))
            (subst (λ (ns : List ℕ). Passes rows (record { taken = taken; rest = later }) (record { taken = taken ++ ns; rest = end q.0 })) (sym (cond-true (is_skipped bytes) (kept_numbers (l + 1) ls) (l ∷ kept_numbers (l + 1) ls) s)) q.1),
      ))
      | kept s k n t same ↦ kept_passes l taken bytes ls rows k s n (clean_line l bytes ls p.0 ∙ same later) (subst (λ (r : Rest). Holds r rows) (same later) p.1) (λ ns more g. holds_passes (l + 1) ns ls more g)
    ]
  where
    kept_passes : (l : ℕ) (taken bytes : List ℕ) (ls : List (List ℕ)) (rows : List Row) (k : Kept) → is_skipped bytes ≡ false → k.number ≡ l → rest l (bytes ∷ ls) ≡ line k (rest (l + 1) ls) → Holds (line k (rest (l + 1) ls)) rows →
        ((ns : List ℕ) (more : List Row) → Holds (rest (l + 1) ls) more → (m : ℕ) × Passes more (record { taken = ns; rest = rest (l + 1) ls }) (record { taken = ns ++ kept_numbers (l + 1) ls; rest = end m })) →
        (m : ℕ) × Passes rows (record { taken = taken; rest = rest l (bytes ∷ ls) }) (record { taken = taken ++ kept_numbers l (bytes ∷ ls); rest = end m })
    kept_passes l taken bytes ls [] k s n is h rec = absurd h
    kept_passes l taken bytes ls (r ∷ rows) k s n is h rec =
        let q = rec (taken ++ k.number ∷ []) rows h.1 in
        let ns = kept_numbers (l + 1) ls in
        let numbers : (taken ++ k.number ∷ []) ++ ns ≡ taken ++ kept_numbers l (bytes ∷ ls) =
        append_assoc taken (k.number ∷ []) ns ∙ ap (λ x. taken ++ x ∷ ns) n ∙ ap (λ v. taken ++ v) (sym (cond-false (is_skipped bytes) ns (l ∷ ns) s)) in
        (q.0, (k, rest (l + 1) ls, is, h.0, subst (λ (xs : List ℕ). Passes rows (record { taken = taken ++ k.number ∷ []; rest = rest (l + 1) ls }) (record { taken = xs; rest = end q.0 })) numbers q.1))

-- what is passed up to the end is all that is left
pub passes_hold : (rows : List Row) (p q : Reading) (m : ℕ) → Passes rows p q → q.rest ≡ end m → Holds p.rest rows
passes_hold [] p q m h e = subst (λ (r : Rest). Holds r []) (sym (ap (λ (x : Reading). x.rest) h ∙ e)) tt
passes_hold (r ∷ rows) p q m h e = subst (λ (x : Rest). Holds x (r ∷ rows)) (sym h.2) (h.3, passes_hold rows (behind p h.0 h.1) q m h.4 e)

-- there is one place behind some rows
pub passes_one : (rows : List Row) (p q r : Reading) → Passes rows p q → Passes rows p r → q ≡ r
passes_one [] p q r h g = sym h ∙ g
passes_one (x ∷ rows) p q r h g =
    let same : line h.0 h.1 ≡ line g.0 g.1 = sym h.2 ∙ g.2 in
    let kept : h.0 ≡ g.0 = (cc) in
    let later : h.1 ≡ g.1 = (cc) in
    passes_one rows (behind p h.0 h.1) q r h.4 (subst (λ (s : Reading). Passes rows s r) (ap (λ k. behind p k g.1) (sym kept) ∙ ap (behind p h.0) (sym later)) g.4)
