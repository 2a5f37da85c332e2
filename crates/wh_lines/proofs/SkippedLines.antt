-- What lines tell that are read one after the other, and from which lines it is read: for the laws on whole texts.
use Rattle.std.proofs.Common.{◌≡◌, ℕ, ◌+◌, ◌==◌, Bool, true, false, cond, List, [], ◌∷◌, sym, ap, ◌∙◌, refl, None, Some, inl, inr}
use Rattle.std.specs.Prelude.{◌||◌, ◌&&◌}
use Rattle.std.specs.declared.option.Option.{Option}
use Rattle.std.specs.List.{list_all}
use Rattle.std.proofs.lemmas.List.Elements.{All-nil, All-cons, All-head, All-tail}
use Rattle.std.proofs.lemmas.Bool.{cases_Bool, cond-true, cond-false, cond_both}
use Rattle.wh_lines.specs.Lines.{Field, is_allowed, bad_at, is_comment, joined, fields}
use Rattle.wh_lines.specs.Laws.{IsClean, is_skipped}

-- ---- a line
pub bad_clean : (c : ℕ) (line : List ℕ) → bad_at c line ≡ None → IsClean line
bad_clean c [] e = All-nil (λ b. is_allowed b ≡ true)
bad_clean c (b ∷ bs) e = elim (cases_Bool (is_allowed b)) [
  | inl t ↦ All-cons (λ b. is_allowed b ≡ true) b bs t (bad_clean (c + 1) bs (sym (cond-true (is_allowed b) (bad_at (c + 1) bs) (Some c) t) ∙ e))
  | inr f ↦ (let no : ◌≡◌ {A = Option ℕ} (Some c) None = sym (cond-false (is_allowed b) (bad_at (c + 1) bs) (Some c) f) ∙ e in absurd (cc))
]

pub clean_bad : (c : ℕ) (line : List ℕ) → IsClean line → bad_at c line ≡ None
clean_bad c [] h = refl
clean_bad c (b ∷ bs) h =
    cond-true (is_allowed b) (bad_at (c + 1) bs) (Some c) (All-head (λ b. is_allowed b ≡ true) b bs h) ∙ clean_bad (c + 1) bs (All-tail (λ b. is_allowed b ≡ true) b bs h)

abbrev pub is_none : List Field → Bool
is_none [] = true
is_none (f ∷ fs) = false

joined_none : (c b : ℕ) (fs : List Field) → is_none (joined c b fs) ≡ false
joined_none c b [] = refl
joined_none c b (f ∷ fs) =
    cond_both (f.column == c + 1) (record { column = c; bytes = b ∷ f.bytes } ∷ fs) (record { column = c; bytes = b ∷ [] } ∷ f ∷ fs) (λ gs. is_none gs ≡ false) (λ _. refl) (λ _. refl)

blank_by : (t u : Bool) (c b : ℕ) (fs : List Field) → u ≡ is_none fs → (t && u) ≡ is_none (cond t fs (joined c b fs))
blank_by true u c b fs e = e
blank_by false u c b fs e = sym (joined_none c b fs)

-- a line has no field exactly where all its bytes are spaces
blank_none : (c : ℕ) (line : List ℕ) → list_all (λ b. b == 32) line ≡ is_none (fields c line)
blank_none c [] = refl
blank_none c (b ∷ bs) = blank_by (b == 32) (list_all (λ b. b == 32) bs) c b (fields (c + 1) bs) (blank_none (c + 1) bs)

pub skipped_is : (line : List ℕ) → is_skipped line ≡ (is_comment line || is_none (fields 1 line))
skipped_is line = ap (λ t. is_comment line || t) (blank_none 1 line)
