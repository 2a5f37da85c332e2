-- Printing a set, letter by letter: for the loop over its letters.
use Rattle.std.proofs.Common.{◌≡◌, ◌≢◌, ℕ, ◌+◌, List, [], ◌∷◌, ◌++◌, sym, ap, ◌∙◌, append_assoc, append-nil}
use Rattle.std.proofs.lemmas.Bool.{cond-true, cond-false}
use Rattle.std.specs.Int.{bit_at}
use Rattle.wh_words.specs.LetterSets.{in_set}
use Rattle.wh_fields.specs.Words.{letter_text}
use Rattle.wh_fields.specs.Repeated.{below}
use Rattle.wh_fields.specs.MoveFields.{set_item}
use Rattle.wh_fields.proofs.RepeatedTexts.{below_suc}
use Rattle.wh_lines.proofs.Scanning.{eq_true, eq_false}

pub set_more : (set k : ℕ) (out old : List ℕ) → bit_at set k ≡ 1 → out ≡ old ++ below (set_item set) k → out ++ letter_text k ∷ [] ≡ old ++ below (set_item set) (k + 1)
set_more set k out old h e =
    ap (λ v. v ++ letter_text k ∷ []) e ∙ append_assoc old (below (set_item set) k) (letter_text k ∷ [])
    ∙ ap (λ c. old ++ (below (set_item set) k ++ c)) (sym (cond-true (in_set set k) (letter_text k ∷ []) [] (eq_true (bit_at set k) 1 h)))
    ∙ sym (ap (λ v. old ++ v) (below_suc (set_item set) k))

pub set_none : (set k : ℕ) (out old : List ℕ) → bit_at set k ≢ 1 → out ≡ old ++ below (set_item set) k → out ≡ old ++ below (set_item set) (k + 1)
set_none set k out old h e =
    e ∙ sym (ap (λ v. old ++ v) (append-nil (below (set_item set) k)))
    ∙ ap (λ c. old ++ (below (set_item set) k ++ c)) (sym (cond-false (in_set set k) (letter_text k ∷ []) [] (eq_false (bit_at set k) 1 h)))
    ∙ sym (ap (λ v. old ++ v) (below_suc (set_item set) k))

pub set_start : (set : ℕ) (old : List ℕ) → old ≡ old ++ below (set_item set) 0
unfolding below
set_start set old = sym (append-nil old)
