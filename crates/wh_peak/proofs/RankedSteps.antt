-- Steps of a rank: their letters are, and each map of letters is a list of swaps and inversions.
use Rattle.wh_composites.specs.SignedPerms.{carry}
use Rattle.wh_words.proofs.LetterMaps.{inverse_below, swap_below, invert_below}
use Rattle.std.proofs.Common.{◌≡◌, ℕ, ◌*◌, ◌<◌, List, [], ◌∷◌, refl, subst}
use Rattle.std.specs.Prelude.{false, ◌++◌}
use Rattle.wh_words.specs.Moves.{Kind, IsKind}
use Rattle.wh_words.specs.Moves.Kind.{swap, invert, cut}
use Rattle.wh_peak.proofs.CarriedLetters.{is-back}
use Rattle.wh_peak.proofs.Steps.{Step, back}
use Rattle.wh_composites.specs.SignedPerms.{IsTurn, letter_map}
use Rattle.wh_peak.proofs.SwapWords.{AreTurns, letters_map}
use Rattle.wh_peak.proofs.CarryWords.{Word, carry_word}
use Rattle.wh_peak.proofs.KindSteps.{step_of}
use Rattle.wh_graph.specs.Laws.{is_of}
use Rattle.wh_peak.proofs.Steps.Step.{cuts, maps}

abbrev pub Ranked : ℕ → Step → Type 0
Ranked n (cuts a A c) = a < 2 * n
Ranked n (maps p q hp hq qp pq) = Word n p × Word n q

abbrev pub AreRanked : ℕ → List Step → Type 0
AreRanked n [] = Unit {0}
AreRanked n (s ∷ ss) = Ranked n s × AreRanked n ss

pub AreRanked-append : (n : ℕ) (p q : List Step) → AreRanked n p → AreRanked n q → AreRanked n (p ++ q)
AreRanked-append n [] q a b = b
AreRanked-append n (s ∷ p) q a b = (a.0, AreRanked-append n p q a.1 b)

unfoldable pub Ranked-back : (n : ℕ) (s : Step) → Ranked n s → Ranked n (back s)
Ranked-back n (cuts a A c) r = inverse_below n a r
Ranked-back n (maps p q hp hq qp pq) r = (r.1, r.0)

pub carry_ranked : (n a b : ℕ) → a < 2 * n → b < 2 * n → is_of a b ≡ false → Word n (carry a b) × Word n (carry b a)
carry_ranked n a b la lb ab = (carry_word n a b la lb ab, carry_word n b a lb la (is-back a b ab))

pub letter_below : (n : ℕ) (k : Kind) (x : ℕ) → IsTurn n k → x < 2 * n → letter_map k x < 2 * n
letter_below n (swap k) x t h = swap_below n k x t.1 h
letter_below n (invert k) x t h = invert_below n k x h
letter_below n (cut a s) x t h = h

letters_below : (n : ℕ) (ks : List Kind) (x : ℕ) → AreTurns n ks → x < 2 * n → letters_map ks x < 2 * n
letters_below n [] x t h = h
letters_below n (k ∷ ks) x t h = letters_below n ks (letter_map k x) t.1 (letter_below n k x t.0 h)

pub word_below : (n : ℕ) (p : ℕ → ℕ) → Word n p → (x : ℕ) → x < 2 * n → p x < 2 * n
word_below n p w x h = subst (λ (y : ℕ). y < 2 * n) (w.is x) (letters_below n w.list x w.turns h)

unfoldable pub Ranked-step : (n : ℕ) (k : Kind) (h : IsKind n k) → Ranked n (step_of n k h)
Ranked-step n (swap k) h = (record { list = swap k ∷ []; turns = (h, tt); is = λ x. refl }, record { list = swap k ∷ []; turns = (h, tt); is = λ x. refl })
Ranked-step n (invert k) h = (record { list = invert k ∷ []; turns = (h, tt); is = λ x. refl }, record { list = invert k ∷ []; turns = (h, tt); is = λ x. refl })
Ranked-step n (cut a s) h = h.of_rank

-- A map of letters doesn't stand alone.
abbrev pub IsCutStep : Step → Type 0
IsCutStep (cuts a A c) = Unit {0}
IsCutStep (maps p q hp hq qp pq) = ⊥

abbrev pub NotLone : List Step → Type 0
NotLone [] = Unit {0}
NotLone (s ∷ []) = IsCutStep s
NotLone (s ∷ t ∷ ss) = Unit {0}

pub NotLone-append : (p q : List Step) → NotLone p → NotLone q → NotLone (p ++ q)
NotLone-append [] q a b = b
NotLone-append (s ∷ []) [] a b = a
NotLone-append (s ∷ []) (t ∷ q) a b = tt
NotLone-append (s ∷ t ∷ p) q a b = tt
