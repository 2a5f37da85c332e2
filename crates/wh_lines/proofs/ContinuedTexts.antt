-- The lines before one of a text, and texts that go on otherwise from there: for the laws on where a text is refused.
use Rattle.std.proofs.Common.{◌≡◌, ◌≢◌, ℕ, ◌+◌, Bool, true, false, cond, List, [], ◌∷◌, ◌++◌, length, map, refl, sym, ap, ◌∙◌, subst, arith, None, Some}
use Rattle.std.specs.declared.option.Option.{Option}
use Rattle.std.specs.List.{All}
use Rattle.std.proofs.lemmas.List.{map-append}
use Rattle.std.proofs.lemmas.List.Elements.{All-append, All-weaker, All-head, All-tail}
use Rattle.std.proofs.lemmas.Bool.{false≢true}
use Rattle.wh_lines.specs.Lines.{lines, is_allowed, bad_at}
use Rattle.wh_lines.specs.Laws.{IsLine, IsClean, ended, is_skipped, kept_lines, field_texts, texts_of}
use Rattle.wh_lines.specs.Rows.{Row, row_bytes}
use Rattle.wh_lines.specs.KeptLines.{Kept, Rest, rest, line_fields, kept_or, unless_bad}
use Rattle.wh_lines.specs.KeptLines.Rest.{line, bad_byte, end}
use Rattle.wh_lines.specs.LineReadings.{Reading}
use Rattle.wh_lines.proofs.LineLaws.{reads_lines}
use Rattle.wh_lines.proofs.SkippedLines.{bad_clean}
use Rattle.wh_lines.proofs.NextLines.{behind}
use Rattle.wh_lines.proofs.PrintedRows.{IsShownRow, row_clean, row_fields, row_kept}
use Rattle.wh_lines.proofs.RowReadings.{Tells, Passes}
use Rattle.wh_lines.proofs.RestRows.{IsOf, line_case, HaveRows, have_none, have_skipped, have_line, texts_told}
use Rattle.wh_lines.proofs.RestRows.LineCase.{skipped, kept}
use Rattle.wh_lines.proofs.CompletedReadings.{StandsAt}

-- ---- the lines before one
-- The lines before line l, of which the first has number n, have these rows.
pub record LinesBefore (n l : ℕ) (ls : List (List ℕ)) (rows : List Row) : Type 0 where
  pub before : List (List ℕ)
  pub from_it : List (List ℕ)
  pub parts : ls ≡ before ++ from_it
  pub place : n + length before ≡ l
  pub have : HaveRows before rows

-- line l is the first of these
none_before : (n l : ℕ) (ls : List (List ℕ)) → n ≡ l → LinesBefore n l ls []
none_before n l ls e = record { before = []; from_it = ls; parts = refl; place = omega (arith, e); have = have_none }

-- one more line before it
one_before : (n l : ℕ) (bytes : List ℕ) (ls : List (List ℕ)) (rows more : List Row) → (b : LinesBefore (n + 1) l ls rows) → HaveRows (bytes ∷ b.before) more → LinesBefore n l (bytes ∷ ls) more
one_before n l bytes ls rows more b h = record { before = bytes ∷ b.before; from_it = b.from_it; parts = ap (λ ms. bytes ∷ ms) b.parts; place = omega (arith, b.place); have = h }

-- before the end
end_before : (n l : ℕ) (rows : List Row) (p q : Reading) → p.rest ≡ end n → Passes rows p q → StandsAt l q.rest → LinesBefore n l [] rows
end_before n l [] p q e h s = none_before n l [] (subst (StandsAt l) (ap (λ (r : Reading). r.rest) (sym h) ∙ e) s)
end_before n l (r ∷ rows) p q e h s = let never = sym e ∙ h.2 in absurd (cc)

-- no bad byte stands before it
bad_before : {A : Type 0} (n c l : ℕ) (rows : List Row) (p q : Reading) → p.rest ≡ bad_byte n c → Passes rows p q → StandsAt l q.rest → A
bad_before n c l [] p q e h s = absurd (subst (StandsAt l) (ap (λ (r : Reading). r.rest) (sym h) ∙ e) s)
bad_before n c l (r ∷ rows) p q e h s = let never = sym e ∙ h.2 in absurd (cc)

-- a line that is kept is line l, or it tells the first row
kept_before : (n l : ℕ) (bytes : List ℕ) (ls : List (List ℕ)) (k : Kept) (later : Rest) (rows : List Row) (p q : Reading) → IsClean bytes → is_skipped bytes ≡ false → k.number ≡ n → IsOf bytes k →
    p.rest ≡ line k later → Passes rows p q → StandsAt l q.rest →
    ((more : List Row) (m : Reading) → m.rest ≡ later → Passes more m q → LinesBefore (n + 1) l ls more) → LinesBefore n l (bytes ∷ ls) rows
kept_before n l bytes ls k later [] p q clean t number is e h s rec =
    let at : k.number ≡ l = subst (StandsAt l) (ap (λ (r : Reading). r.rest) (sym h) ∙ e) s in
    none_before n l (bytes ∷ ls) (sym number ∙ at)
kept_before n l bytes ls k later (r ∷ rows) p q clean t number is e h s rec =
    let same : line h.0 h.1 ≡ line k later = sym h.2 ∙ e in
    let kept : h.0 ≡ k = (cc) in
    let rest : h.1 ≡ later = (cc) in
    let b = rec rows (behind p h.0 h.1) rest h.4 in
    one_before n l bytes ls rows (r ∷ rows) b (have_line bytes b.before r rows clean t (texts_told bytes k r is (subst (Tells r) kept h.3)) b.have)

line_before : (n l : ℕ) (bytes : List ℕ) (ls : List (List ℕ)) (rows : List Row) (p q : Reading) (later : Rest) (o : Option ℕ) → bad_at 1 bytes ≡ o →
    p.rest ≡ unless_bad n o (kept_or n (line_fields bytes) later) → Passes rows p q → StandsAt l q.rest →
    ((more : List Row) (m : Reading) → m.rest ≡ later → Passes more m q → LinesBefore (n + 1) l ls more) → LinesBefore n l (bytes ∷ ls) rows
line_before n l bytes ls rows p q later (Some c) o e h s rec = bad_before n c l rows p q e h s
line_before n l bytes ls rows p q later None o e h s rec = elim (line_case n bytes) [
  | skipped t same ↦ (let b = rec rows p (e ∙ same later) h in
      one_before n l bytes ls rows rows b (have_skipped bytes b.before rows (bad_clean 1 bytes o) t b.have))
  | kept t k number is same ↦ kept_before n l bytes ls k later rows p q (bad_clean 1 bytes o) t number is (e ∙ same later) h s rec
]

pub lines_before : (n l : ℕ) (ls : List (List ℕ)) (rows : List Row) (p q : Reading) → p.rest ≡ rest n ls → Passes rows p q → StandsAt l q.rest → LinesBefore n l ls rows
unfolding rest
lines_before n l [] rows p q e h s = end_before n l rows p q e h s
lines_before n l (bytes ∷ ls) rows p q e h s = line_before n l bytes ls rows p q (rest (n + 1) ls) (bad_at 1 bytes) refl e h s (λ more m f g. lines_before (n + 1) l ls more m q f g s)

-- ---- texts that go on from there
kept_append : (ls ms : List (List ℕ)) → kept_lines (ls ++ ms) ≡ kept_lines ls ++ kept_lines ms
kept_append [] ms = refl
kept_append (bytes ∷ ls) ms = by (is_skipped bytes) (kept_append ls ms)
  where
    by : (t : Bool) → kept_lines (ls ++ ms) ≡ kept_lines ls ++ kept_lines ms → cond t (kept_lines (ls ++ ms)) (bytes ∷ kept_lines (ls ++ ms)) ≡ cond t (kept_lines ls) (bytes ∷ kept_lines ls) ++ kept_lines ms
    by true e = e
    by false e = ap (λ ns. bytes ∷ ns) e

have_append : (ls ms : List (List ℕ)) (rows more : List Row) → HaveRows ls rows → HaveRows ms more → HaveRows (ls ++ ms) (rows ++ more)
have_append ls ms rows more h g = record {
  clean = All-append IsClean ls ms h.clean g.clean;
  texts = ap (map field_texts) (kept_append ls ms) ∙ map-append field_texts (kept_lines ls) (kept_lines ms)
      ∙ ap (λ v. v ++ map field_texts (kept_lines ms)) h.texts ∙ ap (λ v. map texts_of rows ++ v) g.texts ∙ sym (map-append texts_of rows more);
}

printed_have : (rows : List Row) → All IsShownRow rows → HaveRows (map row_bytes rows) rows
printed_have [] a = have_none
printed_have (r ∷ rows) a =
    let h = All-head IsShownRow r rows a in
    have_line (row_bytes r) (map row_bytes rows) r rows (row_clean r h) (row_kept r h) (row_fields r h) (printed_have rows (All-tail IsShownRow r rows a))

clean_line : (bytes : List ℕ) → IsClean bytes → IsLine bytes
clean_line bytes h = All-weaker (λ b. is_allowed b ≡ true) (λ b. b ≢ 10) (λ b a e. false≢true (sym (ap is_allowed e) ∙ a)) bytes h

-- A text that begins with these lines and has these rows.
pub record Continued (before : List (List ℕ)) (rows : List Row) : Type 0 where
  pub text : List ℕ
  pub after : List (List ℕ)
  pub parts : lines text ≡ before ++ after
  pub have : HaveRows (lines text) rows

-- Behind some lines, rows can be printed.
pub continued : (before : List (List ℕ)) (rows more : List Row) → HaveRows before rows → All IsShownRow more → Continued before (rows ++ more)
continued before rows more h shown =
    let after = map row_bytes more in
    let ls = before ++ after in
    let have = have_append before after rows more h (printed_have more shown) in
    let parts : lines (ended ls) ≡ ls = reads_lines.whole ls (All-weaker IsClean IsLine clean_line ls have.clean) in
    record { text = ended ls; after = after; parts = parts; have = subst (λ (ms : List (List ℕ)). HaveRows ms (rows ++ more)) (sym parts) have }
