-- What the theory takes from how a cyclic word is written. All that stands above rests on these facts alone: a word and its conjugates have one normal form, substitutions respect it, it is no longer than the word, and a cut changes its length by what crosses the set.
use Rattle.std.proofs.Common.{◌≡◌, ℕ, ◌+◌, ◌-◌, ◌≤◌, List, [], ◌∷◌, refl, sym, ap, ap₂, ◌∙◌, arith, length, get_or, count_by}
use Rattle.std.specs.Prelude.{Bool, true, false, cond, not, ◌&&◌, ◌||◌, ◌==◌, ◌++◌}
use Rattle.std.specs.List.{flat_map}
use Rattle.wh_words.specs.Letters.{inverse_letter}
use Rattle.wh_words.specs.Words.{IsOfRank}
use Rattle.wh_words.specs.CyclicWords.{cyclic_word}
use Rattle.wh_words.specs.Passes.{round_pass}
use Rattle.wh_words.specs.Edges.{word_edges, crosses, ends_at}
use Rattle.wh_words.proofs.OnePass.{spread}
use Rattle.wh_words.proofs.CutImages.{own_reduced, cut_word, least_length}
use Rattle.wh_words.proofs.Rotations.{cyclic_word-turn, cyclic_word-same}
use Rattle.wh_words.proofs.StoredWords.{cyclic_word-length, cyclic_word-of_rank}
use Rattle.wh_words.proofs.OnePass.{same_class}
use Rattle.wh_moves.proofs.Substitutions.{of_class}
use Rattle.wh_graph.specs.Laws.{is_of}
use Rattle.wh_graph.proofs.Degrees.{word_degree}
use Rattle.wh_graph.proofs.Lengths.{pass_count}
use Rattle.wh_peak.proofs.FreeWords.{run, run-append, Same, power, inverse_of, red_of, run-inverse_right}
use Rattle.wh_peak.proofs.Substitutions.{Substitution}
use Rattle.wh_peak.proofs.CutForms.{cut_letter, IsCut, image}

-- The normal form of a word, which stands for its class.
abbrev pub normal : List ℕ → List ℕ
normal w = cyclic_word w

-- ---- classes
pub normal-normal : (w : List ℕ) → normal (normal w) ≡ normal w
normal-normal w = cyclic_word-same w

pub normal-same : (u v : List ℕ) → Same u v → normal u ≡ normal v
normal-same u v h = same_class u v (red_of u v h)

pub normal-conjugate : (g u : List ℕ) → normal (inverse_of g ++ (u ++ g)) ≡ normal u
normal-conjugate g u =
    cyclic_word-turn (inverse_of g) (u ++ g)
    ∙ normal-same ((u ++ g) ++ inverse_of g) u (λ r. run-append (u ++ g) (inverse_of g) r ∙ (run-append u g (run (inverse_of g) r) ∙ ap (run u) (run-inverse_right g r)))

pub normal-image : (m : Substitution) (w : List ℕ) → normal (flat_map m.of (normal w)) ≡ normal (flat_map m.of w)
normal-image m w = of_class m.of (λ x. red_of (m.of x ++ m.of (inverse_letter x)) [] (m.goes x)) w

pub normal-of_rank : (n : ℕ) (w : List ℕ) → IsOfRank n w → IsOfRank n (normal w)
normal-of_rank n w h = cyclic_word-of_rank n w h

pub normal-length : (w : List ℕ) → length (normal w) ≤ length w
normal-length w = cyclic_word-length w

-- ---- lengths
-- The image of a letter under a cut, as a pass spreads it.
spread_by : (a : ℕ) (p q r s : Bool) (x : ℕ)
    → cond r (inverse_letter a ∷ []) [] ++ (cond (not p && not q) (x ∷ []) [] ++ cond s (a ∷ []) []) ≡ power r (inverse_letter a) ++ (cond (p || q) [] (x ∷ []) ++ power s a)
spread_by a true q true true x = refl
spread_by a true q true false x = refl
spread_by a true q false true x = refl
spread_by a true q false false x = refl
spread_by a false true true true x = refl
spread_by a false true true false x = refl
spread_by a false true false true x = refl
spread_by a false true false false x = refl
spread_by a false false true true x = refl
spread_by a false false true false x = refl
spread_by a false false false true x = refl
spread_by a false false false false x = refl

module _ (a : ℕ) (A : ℕ → Bool) where
  module _ (c : IsCut a A) where
    image_spread : (w : List ℕ) → flat_map (cut_letter a A) w ≡ flat_map (spread a A) w
    image_spread [] = refl
    image_spread (x ∷ w) = ap₂ (λ s t. s ++ t) (image a A c x ∙ sym (spread_by a (x == a) (x == inverse_letter a) (A (inverse_letter x)) (A x) x)) (image_spread w)

    -- The length law of a word.
    pub cut-length : (w : List ℕ) → normal w ≡ w → length (normal (flat_map (cut_letter a A) w)) + count_by (is_of a) w ≡ length w + count_by (crosses A) (word_edges w)
    cut-length w own =
        let e : length (normal (flat_map (cut_letter a A) w)) ≡ length (round_pass a A w) =
        ap (λ v. length (normal v)) (image_spread w) ∙ ap length (cut_word a A c.has c.lacks w (own_reduced w own)) ∙ least_length (round_pass a A w) in
        omega (arith, e, pass_count a A (get_or w (length w - 1) 0) w)

-- The degree of a letter counts it and its inverse.
pub normal-degree : (a : ℕ) (w : List ℕ) → normal w ≡ w → count_by (ends_at a) (word_edges w) ≡ count_by (is_of a) w
normal-degree a w own = word_degree a w (own_reduced w own)
