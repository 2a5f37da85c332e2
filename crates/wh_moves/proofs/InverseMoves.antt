-- The inverse of a move undoes it.
use Rattle.std.proofs.Common.{◌≡◌, ◌≢◌, ℕ, ◌+◌, ◌-◌, ◌*◌, ◌/◌, ◌^◌, ◌<◌, ◌==◌, Bool, true, false, List, [], ◌∷◌, ◌++◌, map, refl, sym, ap, ◌∙◌, inl, inr, arith, append-nil}
use Rattle.std.proofs.lemmas.Bool.{cases_eq}
use Rattle.std.proofs.lemmas.Nat.Bits.{same_from_bits_below}
use Rattle.std.proofs.lemmas.List.Concat.{flat_map-append}
use Rattle.std.proofs.lemmas.List.Elements.{All-head, All-tail}
use Rattle.std.specs.Int.{bit_at}
use Rattle.std.specs.List.{All, flat_map}
use Rattle.wh_words.specs.Letters.{inverse_letter}
use Rattle.wh_words.specs.LetterSets.{in_set}
use Rattle.wh_words.specs.Words.{free_reduction, put_before}
use Rattle.wh_words.specs.CyclicWords.{cyclic_word}
use Rattle.wh_words.specs.Moves.{Kind, IsKind, IsCut, turned_set, inverse_kind}
use Rattle.wh_words.specs.Moves.Kind.{swap, invert, cut}
use Rattle.wh_words.specs.Images.{image, inverse_word}
use Rattle.wh_words.specs.Action.{substitute}
use Rattle.wh_moves.specs.Laws.{InverseIsMove, InverseOfInverse, InverseUndoes}
use Rattle.wh_words.proofs.FreeReduction.{inverse-inverse, inverse-other, inverse_generator, free_reduction-append_left, free_reduction-pair}
use Rattle.wh_words.proofs.CutWords.{around, own_image, other_image}
use Rattle.wh_words.proofs.LetterMaps.{inverse_below, swap_back, invert_back}
use Rattle.wh_words.proofs.LawProofs.{cancels}
use Rattle.wh_words.proofs.OnePass.{same_class}
use Rattle.wh_words.proofs.MoveLaws.{image_of_inverse}
use Rattle.wh_moves.proofs.Masks.{added_same, added_other, added_within, held, removed_same, removed_other}
use Rattle.wh_moves.proofs.Substitutions.{of_class}

-- ---- the set of an inverse cut
inverse_small : (a : ℕ) → a < 52 → inverse_letter a < 64
unfolding inverse_letter
inverse_small a h = omega arith

module _ (a set : ℕ) (holds : bit_at set a ≡ 1) (omits : bit_at set (inverse_letter a) ≡ 0) where
  abbrev with_both : ℕ
  with_both = set + 2 ^ inverse_letter a

  both_holds : bit_at with_both a ≡ 1
  both_holds = added_other set (inverse_letter a) a omits (λ e. inverse-other a (sym e)) ∙ holds

  pub turned_holds : bit_at (turned_set a set) (inverse_letter a) ≡ 1
  turned_holds = removed_other with_both a (inverse_letter a) both_holds (inverse-other a) ∙ added_same set (inverse_letter a) omits

  pub turned_omits : bit_at (turned_set a set) a ≡ 0
  turned_omits = removed_same with_both a both_holds

  pub turned_other : (x : ℕ) → x ≢ a → x ≢ inverse_letter a → bit_at (turned_set a set) x ≡ bit_at set x
  turned_other x n m = removed_other with_both a x both_holds n ∙ added_other set (inverse_letter a) x omits m

  pub turned_back : turned_set (inverse_letter a) (turned_set a set) ≡ set
  turned_back = ap (λ b. turned_set a set + 2 ^ b - 2 ^ inverse_letter a) (inverse-inverse a) ∙ omega (arith, held set a holds)

  pub turned_within : (n : ℕ) → set < 2 ^ n → inverse_letter a < n → turned_set a set < 2 ^ n
  turned_within n h l = omega (arith, added_within set (inverse_letter a) n omits h l)

  -- What the program makes: the inverse is put into the set, and then the letter is taken out.
  pub turned_is : (more result : ℕ) → a < 52 → set < 2 ^ 64 → result < 2 ^ 64 → bit_at more (inverse_letter a) ≡ 1 → ((i : ℕ) → i ≢ inverse_letter a → bit_at more i ≡ bit_at set i) →
      bit_at result a ≡ 0 → ((i : ℕ) → i < 64 → i ≢ a → bit_at result i ≡ bit_at more i) → result ≡ turned_set a set
  turned_is more result small fits fits' same others gone kept =
      same_from_bits_below 64 result (turned_set a set) fits' (turned_within 64 fits (inverse_small a small)) (λ i l. elim (cases_eq i a) [
        | inl e ↦ ap (bit_at result) e ∙ gone ∙ sym turned_omits ∙ ap (bit_at (turned_set a set)) (sym e)
        | inr n ↦ elim (cases_eq i (inverse_letter a)) [
          | inl e ↦ kept i l n ∙ ap (bit_at more) e ∙ same ∙ sym turned_holds ∙ ap (bit_at (turned_set a set)) (sym e)
          | inr m ↦ kept i l n ∙ others i m ∙ sym (turned_other i n m)
        ]
      ])

inverse_cut : (n a set : ℕ) → IsCut n a set → IsCut n (inverse_letter a) (turned_set a set)
inverse_cut n a set c = record {
  of_rank = inverse_below n a c.of_rank;
  within = turned_within a set c.holds c.omits (2 * n) c.within (inverse_below n a c.of_rank);
  holds = turned_holds a set c.holds c.omits;
  omits = ap (bit_at (turned_set a set)) (inverse-inverse a) ∙ turned_omits a set c.holds c.omits;
}

pub inverse_is_kind : (n : ℕ) (k : Kind) → IsKind n k → IsKind n (inverse_kind k)
inverse_is_kind n (swap k) h = h
inverse_is_kind n (invert k) h = h
inverse_is_kind n (cut a set) h = inverse_cut n a set h

inverse_kind-inverse_kind : (n : ℕ) (k : Kind) → IsKind n k → inverse_kind (inverse_kind k) ≡ k
inverse_kind-inverse_kind n (swap k) h = refl
inverse_kind-inverse_kind n (invert k) h = refl
inverse_kind-inverse_kind n (cut a set) h =
    ap (λ s. cut (inverse_letter (inverse_letter a)) s) (turned_back a set h.holds h.omits) ∙ ap (λ b. cut b set) (inverse-inverse a)

pub inverse_is_move : InverseIsMove
inverse_is_move m h = record { rank = h.rank; kind = inverse_is_kind m.rank m.kind h.kind }

pub inverse_move-inverse_move : InverseOfInverse
inverse_move-inverse_move m h = ap (λ (k : Kind). record { rank = m.rank; kind = k }) (inverse_kind-inverse_kind m.rank m.kind h.kind)

-- ---- letters
module _ (f : ℕ → List ℕ) (a x : ℕ) (at_a : f a ≡ a ∷ []) (at_a' : f (inverse_letter a) ≡ inverse_letter a ∷ []) where
  around_undone : (b c : Bool) → f x ≡ around b c (inverse_letter a) x → free_reduction (flat_map f (around b c a x)) ≡ x ∷ []
  around_undone true true e =
      ap (λ u. free_reduction (u ++ (f x ++ (f a ++ [])))) at_a'
      ∙ ap (λ u. free_reduction (inverse_letter a ∷ (u ++ (f a ++ [])))) e
      ∙ ap (λ u. free_reduction (inverse_letter a ∷ inverse_letter (inverse_letter a) ∷ x ∷ inverse_letter a ∷ (u ++ []))) at_a
      ∙ free_reduction-pair [] (inverse_letter a) (x ∷ inverse_letter a ∷ a ∷ [])
      ∙ ap (λ z. free_reduction (x ∷ inverse_letter a ∷ z ∷ [])) (sym (inverse-inverse a))
      ∙ free_reduction-pair (x ∷ []) (inverse_letter a) []
  around_undone true false e =
      ap (λ u. free_reduction (u ++ (f x ++ []))) at_a'
      ∙ ap (λ u. free_reduction (inverse_letter a ∷ (u ++ []))) e
      ∙ free_reduction-pair [] (inverse_letter a) (x ∷ [])
  around_undone false true e =
      ap (λ u. free_reduction (u ++ (f a ++ []))) e
      ∙ ap (λ u. free_reduction (x ∷ inverse_letter a ∷ (u ++ []))) at_a
      ∙ ap (λ z. free_reduction (x ∷ inverse_letter a ∷ z ∷ [])) (sym (inverse-inverse a))
      ∙ free_reduction-pair (x ∷ []) (inverse_letter a) []
  around_undone false false e = ap (λ u. free_reduction (u ++ [])) e

cut_undone : (n a set x : ℕ) → IsCut n a set → free_reduction (substitute (cut (inverse_letter a) (turned_set a set)) (image (cut a set) x)) ≡ x ∷ []
cut_undone n a set x c = elim (cases_eq (x / 2) (a / 2)) [
  | inl e ↦ (
      ap (λ v. free_reduction (substitute (cut (inverse_letter a) (turned_set a set)) v)) (own_image a set x e)
      ∙ ap (λ u. free_reduction (u ++ [])) (own_image (inverse_letter a) (turned_set a set) x (e ∙ sym (inverse_generator a))))
  | inr n ↦ (
      let same : in_set (turned_set a set) x ≡ in_set set x =
      ap (λ d. d == 1) (turned_other a set c.holds c.omits x (λ e. n (ap (λ z. z / 2) e)) (λ e. n (ap (λ z. z / 2) e ∙ inverse_generator a))) in
      let same' : in_set (turned_set a set) (inverse_letter x) ≡ in_set set (inverse_letter x) =
      ap (λ d. d == 1) (turned_other a set c.holds c.omits (inverse_letter x)
      (λ e. n (sym (inverse_generator x) ∙ ap (λ z. z / 2) e))
      (λ e. n (sym (inverse_generator x) ∙ ap (λ z. z / 2) e ∙ inverse_generator a))) in
      ap (λ v. free_reduction (substitute (cut (inverse_letter a) (turned_set a set)) v)) (other_image a set x n)
      ∙ around_undone (image (cut (inverse_letter a) (turned_set a set))) a x
      (own_image (inverse_letter a) (turned_set a set) a (sym (inverse_generator a)))
      (own_image (inverse_letter a) (turned_set a set) (inverse_letter a) refl)
      (in_set set (inverse_letter x)) (in_set set x)
      (other_image (inverse_letter a) (turned_set a set) x (λ e. n (e ∙ inverse_generator a))
      ∙ ap (λ b. around b (in_set (turned_set a set) x) (inverse_letter a) x) same'
      ∙ ap (λ b. around (in_set set (inverse_letter x)) b (inverse_letter a) x) same))
]

letter_undone : (n : ℕ) (k : Kind) (x : ℕ) → IsKind n k → free_reduction (substitute (inverse_kind k) (image k x)) ≡ x ∷ []
letter_undone n (swap k) x h = ap (λ z. z ∷ []) (swap_back k h.0 x)
letter_undone n (invert k) x h = ap (λ z. z ∷ []) (invert_back k x)
letter_undone n (cut a set) x h = cut_undone n a set x h

-- ---- words
word_undone : (n : ℕ) (k : Kind) (w : List ℕ) → IsKind n k → free_reduction (substitute (inverse_kind k) (substitute k w)) ≡ free_reduction w
word_undone n k [] h = refl
word_undone n k (x ∷ w) h =
    let rest : List ℕ = substitute (inverse_kind k) (substitute k w) in
    ap free_reduction (flat_map-append (image (inverse_kind k)) (image k x) (substitute k w))
    ∙ sym (free_reduction-append_left (substitute (inverse_kind k) (image k x)) rest)
    ∙ ap (λ v. free_reduction (v ++ rest)) (letter_undone n k x h)
    ∙ ap (put_before x) (word_undone n k w h)

pub image_cancels : (n : ℕ) (k : Kind) → IsKind n k → (x : ℕ) → free_reduction (image k x ++ image k (inverse_letter x)) ≡ []
image_cancels n k h x =
    ap (λ v. free_reduction (image k x ++ v)) (image_of_inverse n k x h ∙ sym (append-nil (inverse_word (image k x))))
    ∙ cancels (image k x) []

class_undone : (n : ℕ) (k : Kind) (w : List ℕ) → IsKind n k → cyclic_word w ≡ w → cyclic_word (substitute (inverse_kind k) (cyclic_word (substitute k w))) ≡ w
class_undone n k w h e =
    of_class (image (inverse_kind k)) (image_cancels n (inverse_kind k) (inverse_is_kind n k h)) (substitute k w)
    ∙ same_class (substitute (inverse_kind k) (substitute k w)) w (word_undone n k w h) ∙ e

-- ---- tuples
words_undone : (n : ℕ) (k : Kind) (ws : List (List ℕ)) → IsKind n k → All (λ w. cyclic_word w ≡ w) ws →
    map (λ w. cyclic_word (substitute (inverse_kind k) w)) (map (λ w. cyclic_word (substitute k w)) ws) ≡ ws
words_undone n k [] h own = refl
words_undone n k (w ∷ ws) h own =
    ap (λ v. v ∷ map (λ w. cyclic_word (substitute (inverse_kind k) w)) (map (λ w. cyclic_word (substitute k w)) ws))
    (class_undone n k w h (All-head (λ w. cyclic_word w ≡ w) w ws own))
    ∙ ap (λ vs. w ∷ vs) (words_undone n k ws h (All-tail (λ w. cyclic_word w ≡ w) w ws own))

pub undone : InverseUndoes
undone t m is h =
    ap (λ (ws : List (List ℕ)). record { rank = t.rank; words = ws }) (words_undone m.rank m.kind t.words h.kind is.cyclic)
