-- The swaps and the inversion of the fifth family take a to b and b to the inverse of a.
use Rattle.std.proofs.Common.{◌≡◌, ◌≢◌, ℕ, zero, suc, ◌+◌, ◌-◌, ◌*◌, ◌/◌, ◌%◌, ◌<◌, ◌≤◌, Bool, true, false, cond, List, [], ◌∷◌, sym, ap, subst, inl, inr, ◌∙◌, arith, eq-eqb, ne_eqb}
use Rattle.std.proofs.lemmas.Bool.{cases_eq, cases_lt}
use Rattle.std.specs.Prelude.{ltb, ◌++◌}
use Rattle.wh_words.specs.Words.{free_reduction}
use Rattle.wh_words.specs.Moves.{Kind}
use Rattle.wh_words.specs.Moves.Kind.{swap, invert}
use Rattle.wh_words.specs.Images.{swap_letter}
use Rattle.wh_words.proofs.LetterMaps.{swap_up, swap_down, swap_stay}
use Rattle.wh_composites.specs.SignedPerms.{carry}
use Rattle.wh_graph.specs.Laws.{is_of}
use Rattle.wh_peak.specs.Equivalence.{AreMovesOfRank}
use Rattle.wh_peak.specs.Relations.{MapsLetters}
use Rattle.wh_peak.proofs.SwapWords.{AreTurns, letters_map, letters_map-append, AreTurns-append, Exchanges}
use Rattle.wh_peak.proofs.CarryWords.{Trades, half_off, one_sign, two_signs}
use Rattle.wh_peak.proofs.KindLists.{substitute_kinds}
use Rattle.wh_peak.proofs.ExpandedSteps.{turn_kinds, turns_image}
use Rattle.wh_peak.proofs.MovesOfRank.{moves_of, kinds-moves_of, are_moves, substituted}
use Rattle.wh_relators.specs.Families.{exchange_up, exchange, carry_kinds, carry_word}

up_turns : (n k d : ℕ) → 0 < k → k + d < n → AreTurns n (exchange_up k d)
up_turns n k zero h l = ((h, omega (arith, l)), tt)
up_turns n k (suc d) h l = ((h, omega (arith, l)), AreTurns-append n (exchange_up (k + 1) d) (swap k ∷ []) (up_turns n (k + 1) d (omega arith) (omega (arith, l))) ((h, omega (arith, l)), tt))

up-is : (k d : ℕ) → 0 < k → Exchanges (k - 1) (k + d) (letters_map (exchange_up k d))
up-is k zero h = record {
  up = λ x e. swap_up k x (omega (arith, e, h)) ∙ omega (arith, h);
  down = λ x e. swap_down k x (omega (arith, e)) ∙ omega (arith, h);
  off = λ x e g. swap_stay k x (λ q. e (omega (arith, q))) (λ q. g (omega (arith, q)));
}
up-is k (suc d) h =
    let r : Exchanges (k + 1 - 1) (k + 1 + d) (letters_map (exchange_up (k + 1) d)) = up-is (k + 1) d (omega arith) in
    record {
      up = λ x e. whole k d x ∙ (ap (λ y. swap_letter k (letters_map (exchange_up (k + 1) d) y)) (swap_up k x (omega (arith, e, h)))
          ∙ (ap (swap_letter k) (r.up (x + 2) (omega (arith, e, h))) ∙ (swap_stay k (x + 2 + 2 * (k + 1 + d - (k + 1 - 1))) (λ q. omega (arith, e, q, h)) (λ q. omega (arith, e, q, h)) ∙ omega (arith, h))));
      down = λ x e. whole k d x ∙ (ap (λ y. swap_letter k (letters_map (exchange_up (k + 1) d) y)) (swap_stay k x (λ q. omega (arith, e, q)) (λ q. omega (arith, e, q)))
          ∙ (ap (swap_letter k) (r.down x (omega (arith, e))) ∙ (swap_down k (x - 2 * (k + 1 + d - (k + 1 - 1))) (omega (arith, e)) ∙ omega (arith, h))));
      off = λ x e g. whole k d x ∙ elim (cases_eq (x / 2) k) [
        | inl q ↦ ap (λ y. swap_letter k (letters_map (exchange_up (k + 1) d) y)) (swap_down k x q)
            ∙ (ap (swap_letter k) (r.off (x - 2) (λ z. omega (arith, q, z, h)) (λ z. omega (arith, q, z, h))) ∙ (swap_up k (x - 2) (omega (arith, q, h)) ∙ omega (arith, q, h)))
        | inr f ↦ ap (λ y. swap_letter k (letters_map (exchange_up (k + 1) d) y)) (swap_stay k x (λ z. e (omega (arith, z))) f)
            ∙ (ap (swap_letter k) (r.off x (λ z. f (omega (arith, z))) (λ z. g (omega (arith, z)))) ∙ swap_stay k x (λ z. e (omega (arith, z))) f)
      ];
    }
  where
    whole : (k d x : ℕ) → letters_map (exchange_up k (suc d)) x ≡ swap_letter k (letters_map (exchange_up (k + 1) d) (swap_letter k x))
    whole k d x = letters_map-append (exchange_up (k + 1) d) (swap k ∷ []) (swap_letter k x)

record Traded (n i j : ℕ) (list : List Kind) : Type 0 where
  turns : AreTurns n list
  trades : Trades i j (letters_map list)

ltb_yes : (g h : ℕ) → g < h → ltb g h ≡ true
ltb_yes g h l = search arith

ltb_no : (g h : ℕ) → h ≤ g → ltb g h ≡ false
ltb_no g h l = search arith

traded : (n i j : ℕ) → i < n → j < n → i ≢ j → Traded n i j (exchange (i + 1) (j + 1))
traded n i j hi hj ne = elim (cases_lt i j) [
  | inl l ↦ (
      let r : Exchanges (i + 1 - 1) (i + 1 + (j + 1 - (i + 1) - 1)) (letters_map (exchange_up (i + 1) (j + 1 - (i + 1) - 1))) = up-is (i + 1) (j + 1 - (i + 1) - 1) (omega arith) in
      subst (Traded n i j) (sym (ap (λ (b : Bool). cond b (exchange_up (i + 1) (j + 1 - (i + 1) - 1)) (exchange_up (j + 1) (i + 1 - (j + 1) - 1))) (ltb_yes (i + 1) (j + 1) (omega (arith, l)))))
      (record {
        turns = up_turns n (i + 1) (j + 1 - (i + 1) - 1) (omega arith) (omega (arith, l, hj));
        trades = record {
          there = λ x q. omega (arith, r.up x (omega (arith, q)), q, l);
          back_again = λ x q. omega (arith, r.down x (omega (arith, q, l)), q, l);
          stays = λ x q k. r.off x (λ z. q (omega (arith, z))) (λ z. k (omega (arith, z, l)));
        };
      }))
  | inr g ↦ (
      let l : j < i = omega (arith, g, ne) in
      let r : Exchanges (j + 1 - 1) (j + 1 + (i + 1 - (j + 1) - 1)) (letters_map (exchange_up (j + 1) (i + 1 - (j + 1) - 1))) = up-is (j + 1) (i + 1 - (j + 1) - 1) (omega arith) in
      subst (Traded n i j) (sym (ap (λ (b : Bool). cond b (exchange_up (i + 1) (j + 1 - (i + 1) - 1)) (exchange_up (j + 1) (i + 1 - (j + 1) - 1))) (ltb_no (i + 1) (j + 1) (omega (arith, g)))))
      (record {
        turns = up_turns n (j + 1) (i + 1 - (j + 1) - 1) (omega arith) (omega (arith, l, hi));
        trades = record {
          there = λ x q. omega (arith, r.down x (omega (arith, q, l)), q, l);
          back_again = λ x q. omega (arith, r.up x (omega (arith, q)), q, l);
          stays = λ x q k. r.off x (λ z. k (omega (arith, z))) (λ z. q (omega (arith, z, l)));
        };
      }))
]

-- The list that carries a to b.
pub record Carried (n a b : ℕ) (list : List Kind) : Type 0 where
  pub turns : AreTurns n list
  pub is : (x : ℕ) → letters_map list x ≡ carry a b x

pub carried : (n a b : ℕ) → a < 2 * n → b < 2 * n → is_of a b ≡ false → Carried n a b (carry_kinds a b)
unfolding carry_kinds
carried n a b la lb ab =
    let w : Traded n (a / 2) (b / 2) (exchange (a / 2 + 1) (b / 2 + 1)) = traded n (a / 2) (b / 2) (omega (arith, la)) (omega (arith, lb)) (λ q. half_off a b ab (sym q)) in
    let l : List Kind = exchange (a / 2 + 1) (b / 2 + 1) in
    elim (cases_eq (a % 2) (b % 2)) [
      | inl s ↦ subst (λ (k : ℕ). Carried n a b (exchange (a / 2 + 1) (b / 2 + 1) ++ (invert k ∷ []))) (sym (ap (λ (t : Bool). cond t (a / 2 + 1) (b / 2 + 1)) (eq-eqb (a % 2) (b % 2) s))) (record {
        turns = AreTurns-append n l (invert (a / 2 + 1) ∷ []) w.turns ((omega arith, omega (arith, la)), tt);
        is = λ x. letters_map-append l (invert (a / 2 + 1) ∷ []) x ∙ one_sign a b ab (letters_map l) w.trades s x;
      })
      | inr s ↦ subst (λ (k : ℕ). Carried n a b (exchange (a / 2 + 1) (b / 2 + 1) ++ (invert k ∷ []))) (sym (ap (λ (t : Bool). cond t (a / 2 + 1) (b / 2 + 1)) (ne_eqb (a % 2) (b % 2) s))) (record {
        turns = AreTurns-append n l (invert (b / 2 + 1) ∷ []) w.turns ((omega arith, omega (arith, lb)), tt);
        is = λ x. letters_map-append l (invert (b / 2 + 1) ∷ []) x ∙ two_signs a b ab (letters_map l) w.trades s x;
      })
    ]

pub carry-of_rank : (n a b : ℕ) → n ≤ 26 → a < 2 * n → b < 2 * n → is_of a b ≡ false → AreMovesOfRank n (carry_word n a b)
carry-of_rank n a b few la lb ab = are_moves n few (carry_kinds a b) (turn_kinds n (carry_kinds a b) (carried n a b la lb ab).turns)

pub carry-maps : (n a b : ℕ) → a < 2 * n → b < 2 * n → is_of a b ≡ false → MapsLetters n (carry_word n a b) (carry a b)
carry-maps n a b la lb ab x l =
    ap free_reduction (substituted (moves_of n (carry_kinds a b)) (x ∷ []) ∙ (ap (λ js. substitute_kinds js (x ∷ [])) (kinds-moves_of n (carry_kinds a b)) ∙ (turns_image n (carry_kinds a b) (carried n a b la lb ab).turns (x ∷ []) ∙ ap (λ y. y ∷ []) ((carried n a b la lb ab).is x))))
