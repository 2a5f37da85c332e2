-- Identity cuts: cuts whose set has the multiplier alone, and which leave every tuple as it is.
use Rattle.std.proofs.Common.{◌≡◌, ◌≢◌, ◌⊎◌, ℕ, ◌/◌, ◌^◌, ◌==◌, Bool, false, List, [], ◌∷◌, ◌++◌, map, refl, sym, ap, ◌∙◌, inl, inr}
use Rattle.std.proofs.lemmas.Bool.{cases_eq}
use Rattle.std.proofs.lemmas.Nat.Bits.{bit_at-pow_other}
use Rattle.std.specs.List.{All}
use Rattle.std.proofs.lemmas.List.Elements.{All-head, All-tail}
use Rattle.wh_words.specs.Letters.{inverse_letter}
use Rattle.wh_words.specs.LetterSets.{in_set}
use Rattle.wh_words.specs.CyclicWords.{cyclic_word}
use Rattle.wh_words.specs.Tuples.{TupleData, IsTuple}
use Rattle.wh_words.specs.Moves.{Kind, Move, IsIdentityCut}
use Rattle.wh_words.specs.Moves.Kind.{swap, invert, cut}
use Rattle.wh_words.specs.Images.{image}
use Rattle.wh_words.specs.Action.{act, substitute}
use Rattle.wh_words.proofs.CutWords.{around, own_image, other_image}
use Rattle.wh_words.proofs.FreeReduction.{inverse_generator}

unmoved_image : (a set x : ℕ) → x / 2 ≢ a / 2 → in_set set (inverse_letter x) ≡ false → in_set set x ≡ false → image (cut a set) x ≡ x ∷ []
unmoved_image a set x n h k = other_image a set x n ∙ ap (λ (b : Bool). around b (in_set set x) a x) h ∙ ap (λ (b : Bool). around false b a x) k

not_alone : (a x : ℕ) → x ≢ a → in_set (2 ^ a) x ≡ false
not_alone a x n = ap (λ b. b == 1) (bit_at-pow_other a x n)

pub identity_image : (a x : ℕ) → image (cut a (2 ^ a)) x ≡ x ∷ []
identity_image a x = elim (cases_eq (x / 2) (a / 2)) [
  | inl e ↦ own_image a (2 ^ a) x e
  | inr n ↦ unmoved_image a (2 ^ a) x n
      (not_alone a (inverse_letter x) (λ e. n (sym (inverse_generator x) ∙ ap (λ y. y / 2) e)))
      (not_alone a x (λ e. n (ap (λ y. y / 2) e)))
]

identity_word : (a : ℕ) (w : List ℕ) → substitute (cut a (2 ^ a)) w ≡ w
identity_word a [] = refl
identity_word a (x ∷ w) = ap (λ u. u ++ substitute (cut a (2 ^ a)) w) (identity_image a x) ∙ ap (λ u. x ∷ u) (identity_word a w)

identity_words : (a : ℕ) (ws : List (List ℕ)) → All (λ w. cyclic_word w ≡ w) ws → map (λ w. cyclic_word (substitute (cut a (2 ^ a)) w)) ws ≡ ws
identity_words a [] c = refl
identity_words a (w ∷ ws) c =
    ap (λ v. v ∷ map (λ w. cyclic_word (substitute (cut a (2 ^ a)) w)) ws) (ap cyclic_word (identity_word a w) ∙ All-head (λ v. cyclic_word v ≡ v) w ws c)
    ∙ ap (λ vs. w ∷ vs) (identity_words a ws (All-tail (λ v. cyclic_word v ≡ v) w ws c))

identity_kind : (k : Kind) (t : TupleData) → IsTuple t → IsIdentityCut k → map (λ w. cyclic_word (substitute k w)) t.words ≡ t.words
identity_kind (swap j) t is h = absurd h
identity_kind (invert j) t is h = absurd h
identity_kind (cut a set) t is h = ap (λ (s : ℕ). map (λ w. cyclic_word (substitute (cut a s) w)) t.words) h ∙ identity_words a t.words is.cyclic

pub identity_acts : (t : TupleData) (m : Move) → IsTuple t → IsIdentityCut m.kind → act t m ≡ t
identity_acts t m is h = ap (λ (ws : List (List ℕ)). record { rank = t.rank; words = ws }) (identity_kind m.kind t is h)

-- Each kind is an identity cut or none.
pub identity_or_not : (k : Kind) → IsIdentityCut k ⊎ ¬ (IsIdentityCut k)
identity_or_not (swap j) = inr (λ h. h)
identity_or_not (invert j) = inr (λ h. h)
identity_or_not (cut a set) = cases_eq set (2 ^ a)
