-- A cut in one pass: what is left of the substitution after each junction has cancelled.
use Rattle.std.proofs.Common.{◌≡◌, ℕ, Bool, true, false, cond, List, [], ◌∷◌, ◌++◌, refl, sym, ap, ◌∙◌, append_assoc, append-nil}
use Rattle.std.specs.List.{flat_map}
use Rattle.wh_words.specs.Letters.{inverse_letter}
use Rattle.wh_words.specs.Words.{free_reduction}
use Rattle.wh_words.specs.CyclicWords.{cyclic_word}
use Rattle.wh_words.proofs.FreeReduction.{inverse-inverse, free_reduction-pair, free_reduction-append_left, free_reduction-append_right}
use Rattle.wh_words.proofs.Rotations.{cyclic_word-turn, cyclic_word-free_reduction}
use Rattle.wh_words.specs.Passes.{kept, junction, junction_of, pass, last_or}

-- Words of one free reduction have one cyclic word.
pub same_class : (u v : List ℕ) → free_reduction u ≡ free_reduction v → cyclic_word u ≡ cyclic_word v
same_class u v e = sym (cyclic_word-free_reduction u) ∙ ap cyclic_word e ∙ cyclic_word-free_reduction v

module _ (a : ℕ) (has : ℕ → Bool) where
  -- what stands after a letter, and before it
  abbrev pub after_letter : ℕ → List ℕ
  after_letter x = cond (has x) (a ∷ []) []

  abbrev pub before_letter : ℕ → List ℕ
  before_letter x = cond (has (inverse_letter x)) (inverse_letter a ∷ []) []

  -- the image of a letter, in three parts
  abbrev pub spread : ℕ → List ℕ
  spread x = before_letter x ++ (kept a has x ++ after_letter x)

  meets : (b c : Bool) (w : List ℕ) → free_reduction (cond b (a ∷ []) [] ++ (cond c (inverse_letter a ∷ []) [] ++ w)) ≡ free_reduction (junction_of a has b c ++ w)
  meets true true w = free_reduction-pair [] a w
  meets true false w = refl
  meets false true w = refl
  meets false false w = refl

  under : (u v w : List ℕ) → free_reduction v ≡ free_reduction w → free_reduction (u ++ v) ≡ free_reduction (u ++ w)
  under u v w e = sym (free_reduction-append_right u v) ∙ ap (λ t. free_reduction (u ++ t)) e ∙ free_reduction-append_right u w

  -- the substitution, after what stands behind p, is the pass a has
  pub pass-is : (p : ℕ) (w : List ℕ) → free_reduction (after_letter p ++ flat_map spread w) ≡ free_reduction (pass a has p w ++ after_letter (last_or a has p w))
  pass-is p [] = ap free_reduction (append-nil (after_letter p))
  pass-is p (x ∷ w) =
      ap (λ t. free_reduction (after_letter p ++ t)) (append_assoc (before_letter x) (kept a has x ++ after_letter x) (flat_map spread w))
      ∙ meets (has p) (has (inverse_letter x)) ((kept a has x ++ after_letter x) ++ flat_map spread w)
      ∙ ap (λ t. free_reduction (junction a has p x ++ t)) (append_assoc (kept a has x) (after_letter x) (flat_map spread w))
      ∙ under (junction a has p x) (kept a has x ++ (after_letter x ++ flat_map spread w)) (kept a has x ++ (pass a has x w ++ after_letter (last_or a has x w)))
      (under (kept a has x) (after_letter x ++ flat_map spread w) (pass a has x w ++ after_letter (last_or a has x w)) (pass-is x w))
      ∙ ap free_reduction (sym (append_assoc (junction a has p x) (kept a has x ++ pass a has x w) (after_letter (last_or a has x w)) ∙ ap (λ t. junction a has p x ++ t) (append_assoc (kept a has x) (pass a has x w) (after_letter (last_or a has x w)))))

  abbrev undo : Bool → List ℕ
  undo b = cond b (inverse_letter a ∷ []) []

  undone : (b : Bool) (w : List ℕ) → free_reduction ((w ++ cond b (a ∷ []) []) ++ undo b) ≡ free_reduction w
  undone true w = ap free_reduction (append_assoc w (a ∷ []) (inverse_letter a ∷ [])) ∙ free_reduction-pair w a [] ∙ ap free_reduction (append-nil w)
  undone false w = ap free_reduction (append-nil (w ++ []) ∙ append-nil w)

  undone_front : (b : Bool) (w : List ℕ) → free_reduction (undo b ++ (cond b (a ∷ []) [] ++ w)) ≡ free_reduction w
  undone_front true w = rw inverse-inverse at (free_reduction-pair [] (inverse_letter a) w)
  undone_front false w = refl

  -- round a cyclic word, whose last letter stands before its first
  pub pass-round : (x : ℕ) (w : List ℕ) → cyclic_word (flat_map spread (x ∷ w)) ≡ cyclic_word (pass a has (last_or a has x w) (x ∷ w))
  pass-round x w =
      let b : Bool = has (last_or a has x w) in
      let all : List ℕ = flat_map spread (x ∷ w) in
      let round : List ℕ = pass a has (last_or a has x w) (x ∷ w) in
      let fore : List ℕ = after_letter (last_or a has x w) in
      sym (same_class (undo b ++ (fore ++ all)) all (undone_front b all))
      ∙ cyclic_word-turn (undo b) (fore ++ all)
      ∙ same_class ((fore ++ all) ++ undo b) ((round ++ fore) ++ undo b)
      (sym (free_reduction-append_left (fore ++ all) (undo b)) ∙ ap (λ t. free_reduction (t ++ undo b)) (pass-is (last_or a has x w) (x ∷ w)) ∙ free_reduction-append_left (round ++ fore) (undo b))
      ∙ same_class ((round ++ fore) ++ undo b) round (undone b round)
