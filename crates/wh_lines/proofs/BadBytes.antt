-- The first byte that may not stand in a text: for the law on bad bytes.
use Rattle.std.proofs.Common.{◌≡◌, ℕ, ◌+◌, true, false, List, [], ◌∷◌, ◌++◌, length, sym, ap, ◌∙◌, refl, arith, None, Some, inl, inr}
use Rattle.std.specs.declared.option.Option.{Option}
use Rattle.std.specs.List.{All}
use Rattle.std.proofs.lemmas.List.Elements.{All-nil, All-cons}
use Rattle.std.proofs.lemmas.Bool.{cases_Bool, cond-true, cond-false}
use Rattle.wh_lines.specs.Lines.{Field, is_allowed, bad_at}
use Rattle.wh_lines.specs.KeptLines.{Rest, rest, line_fields, kept_or, unless_bad}
use Rattle.wh_lines.specs.KeptLines.Rest.{line, bad_byte, end}
use Rattle.wh_lines.specs.Laws.{IsClean}
use Rattle.wh_lines.proofs.SkippedLines.{bad_clean}

-- ---- the leftmost bad byte of a line
pub record IsLeftmost (c : ℕ) (bytes : List ℕ) (column : ℕ) : Type 0 where
  pub prefix : List ℕ
  pub bad : ℕ
  pub suffix : List ℕ
  pub parts : bytes ≡ prefix ++ bad ∷ suffix
  pub place : column ≡ length prefix + c
  pub clean : IsClean prefix
  pub is_bad : is_allowed bad ≡ false

leftmost : (c column : ℕ) (bytes : List ℕ) → bad_at c bytes ≡ Some column → IsLeftmost c bytes column
leftmost c column [] e = absurd (cc)
leftmost c column (b ∷ bs) e = elim (cases_Bool (is_allowed b)) [
  | inl t ↦ (let r = leftmost (c + 1) column bs (sym (cond-true (is_allowed b) (bad_at (c + 1) bs) (Some c) t) ∙ e) in
      record { prefix = b ∷ r.prefix; bad = r.bad; suffix = r.suffix; parts = ap (λ v. b ∷ v) r.parts; place = omega (arith, r.place); clean = All-cons (λ b. is_allowed b ≡ true) b r.prefix t r.clean; is_bad = r.is_bad })
  | inr f ↦ (let same : ◌≡◌ {A = Option ℕ} (Some c) (Some column) = sym (cond-false (is_allowed b) (bad_at (c + 1) bs) (Some c) f) ∙ e in
      let place : c ≡ column = (cc) in
      record { prefix = []; bad = b; suffix = bs; parts = refl; place = omega (arith, place); clean = All-nil (λ b. is_allowed b ≡ true); is_bad = f })
]

-- ---- the first line with a bad byte
-- after some lines comes the bad byte of this line and this column
abbrev pub IsBadAt : ℕ → ℕ → Rest → Type 0
IsBadAt m column (line k later) = IsBadAt m column later
IsBadAt m column (bad_byte l c) = (l ≡ m) × (c ≡ column)
IsBadAt m column (end l) = ⊥

-- line m, where the first of these lines has number l
pub record IsFirst (l : ℕ) (ls : List (List ℕ)) (m column : ℕ) : Type 0 where
  pub lines_before : List (List ℕ)
  pub bytes : List ℕ
  pub lines_after : List (List ℕ)
  pub parts : ls ≡ lines_before ++ bytes ∷ lines_after
  pub place : m ≡ length lines_before + l
  pub clean : All IsClean lines_before
  pub leftmost : IsLeftmost 1 bytes column

kept_bad : (l m column : ℕ) (fs : List Field) (later : Rest) → IsBadAt m column (kept_or l fs later) → IsBadAt m column later
kept_bad l m column [] later h = h
kept_bad l m column (f ∷ fs) later h = h

unless_cases : (l m column : ℕ) (bytes : List ℕ) (ls : List (List ℕ)) (later : Rest) (o : Option ℕ) → bad_at 1 bytes ≡ o → IsBadAt m column (unless_bad l o later) → (IsBadAt m column later → IsFirst (l + 1) ls m column) → IsFirst l (bytes ∷ ls) m column
unless_cases l m column bytes ls later None e h rec =
    let r = rec h in
    record {
      lines_before = bytes ∷ r.lines_before;
      bytes = r.bytes;
      lines_after = r.lines_after;
      parts = ap (λ v. bytes ∷ v) r.parts;
      place = omega (arith, r.place);
      clean = All-cons IsClean bytes r.lines_before (bad_clean 1 bytes e) r.clean;
      leftmost = r.leftmost;
    }
unless_cases l m column bytes ls later (Some c) e h rec =
    record { lines_before = []; bytes = bytes; lines_after = ls; parts = refl; place = omega (arith, h.0); clean = All-nil IsClean; leftmost = leftmost 1 column bytes (e ∙ ap (λ k. Some k) h.1) }

pub first_bad : (l m column : ℕ) (ls : List (List ℕ)) → IsBadAt m column (rest l ls) → IsFirst l ls m column
unfolding rest
first_bad l m column [] h = absurd h
first_bad l m column (bytes ∷ ls) h =
    unless_cases l m column bytes ls (kept_or l (line_fields bytes) (rest (l + 1) ls)) (bad_at 1 bytes) refl h
    (λ g. first_bad (l + 1) m column ls (kept_bad l m column (line_fields bytes) (rest (l + 1) ls) g))
