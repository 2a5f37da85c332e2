-- Lists of moves as the code makes them.
use Rattle.std.proofs.Common.{◌≡◌, ℕ, zero, suc, ◌+◌, ◌-◌, ◌<◌, ◌/◌, ◌%◌, ◌^◌, ◌==◌, Bool, true, false, not, List, [], ◌∷◌, length, get_or, drop, ◌≤◌, refl, sym, ap, ap₂, ◌∙◌, arith, map, eq-eqb, ne_eqb}
use Rattle.std.proofs.lemmas.Bool.{false≢true}
use Rattle.std.proofs.lemmas.List.{map-append, drop_all}
use Rattle.std.proofs.Math.Seq.{drop-cons}
use Rattle.std.specs.Prelude.{cond, ltb, ◌++◌, ◌&&◌, ◌↔◌, IsTrue}
use Rattle.wh_words.specs.Moves.{Move, Kind, IsIdentityCut}
use Rattle.wh_words.specs.Moves.Kind.{swap, invert, cut}
use Rattle.wh_peak.specs.Relations.{swap_move, invert_move}
use Rattle.wh_relators.specs.Families.{exchange_up, exchange, carry_kinds, carry_word}
use Rattle.wh_relators.specs.Instances.{is_identity, is_proper}

abbrev pub mover : ℕ → Kind → Move
mover n k = record { rank = n; kind = k }

pub exchange_near : (n k d : ℕ) → d ≡ 1 → swap_move n k ∷ [] ≡ map (mover n) (exchange_up k (d - 1))
exchange_near n k d e = let z : 0 ≡ d - 1 = omega (arith, e) in ap (λ c. map (mover n) (exchange_up k c)) z

pub exchange_next : (n k d : ℕ) → d ≡ 2 → swap_move n k ∷ swap_move n (k + 1) ∷ swap_move n k ∷ [] ≡ map (mover n) (exchange_up k (d - 1))
exchange_next n k d e = let z : 1 ≡ d - 1 = omega (arith, e) in ap (λ c. map (mover n) (exchange_up k c)) z

pub exchange_far : (n k d : ℕ) → d ≡ 3 → swap_move n k ∷ swap_move n (k + 1) ∷ swap_move n (k + 2) ∷ swap_move n (k + 1) ∷ swap_move n k ∷ [] ≡ map (mover n) (exchange_up k (d - 1))
exchange_far n k d e =
    let z : 2 ≡ d - 1 = omega (arith, e) in
    let j : k + 2 ≡ k + 1 + 1 = omega arith in
    ap (λ i. swap_move n k ∷ swap_move n (k + 1) ∷ swap_move n i ∷ swap_move n (k + 1) ∷ swap_move n k ∷ []) j ∙ ap (λ c. map (mover n) (exchange_up k c)) z

-- ---- identity cuts
pub identity_is : (k : Kind) (b : Bool) → (IsTrue b ↔ IsIdentityCut k) → b ≡ is_identity k
identity_is k true h = sym (yes k (h.0 refl))
  where
    yes : (k : Kind) → IsIdentityCut k → is_identity k ≡ true
    yes (swap j) i = absurd i
    yes (invert j) i = absurd i
    yes (cut a set) i = eq-eqb set (2 ^ a) i
identity_is (swap j) false h = refl
identity_is (invert j) false h = refl
identity_is (cut a set) false h = sym (ne_eqb set (2 ^ a) (λ e. false≢true (h.1 e)))

-- What is left of a list decides.
pub proper_next : (ms : List Move) (i : ℕ) (m : Move) (b : Bool) → i < length ms → m ≡ get_or ms i m → b ≡ is_identity m.kind → is_proper (drop i ms) ≡ (not b && is_proper (drop (i + 1) ms))
unfolding is_proper
proper_next ms i m b l e h =
    let j : suc i ≡ i + 1 = omega arith in
    ap is_proper (drop-cons ms i m l)
    ∙ (ap₂ (λ (x : Move) (y : ℕ). not (is_identity (x.kind)) && is_proper (drop y ms)) (sym e) j
    ∙ ap (λ c. not c && is_proper (drop (i + 1) ms)) (sym h))

pub proper_end : (ms : List Move) (i : ℕ) → length ms ≤ i → is_proper (drop i ms) ≡ true
unfolding is_proper
proper_end ms i l = ap is_proper (drop_all i ms l)

-- ---- carrying one letter to another
pub carry_more : (n a b g h j : ℕ) (old list more : List Move) → old ≡ [] → g ≡ a / 2 + 1 → h ≡ b / 2 + 1 → j ≡ cond (a % 2 == b % 2) (a / 2 + 1) (b / 2 + 1) →
    list ≡ old ++ map (mover n) (exchange g h) → more ≡ list ++ invert_move n j ∷ [] → more ≡ carry_word n a b
unfolding carry_kinds
carry_more n a b g h j old list more eo eg eh ej l m =
    m ∙ (ap₂ (λ xs k. xs ++ invert_move n k ∷ []) (l ∙ ap₂ (λ o ks. o ++ map (mover n) ks) eo (ap₂ exchange eg eh)) ej
    ∙ sym (map-append (mover n) (exchange (a / 2 + 1) (b / 2 + 1)) (invert (cond (a % 2 == b % 2) (a / 2 + 1) (b / 2 + 1)) ∷ [])))

-- ---- lists without identity cuts
proper-append : (a b : List Move) → is_proper (a ++ b) ≡ (is_proper a && is_proper b)
unfolding is_proper
proper-append [] b = refl
proper-append (m ∷ a) b = ap (λ p. not (is_identity m.kind) && p) (proper-append a b) ∙ assoc (not (is_identity m.kind)) (is_proper a) (is_proper b)
  where
    assoc : (p q r : Bool) → (p && (q && r)) ≡ ((p && q) && r)
    assoc true q r = refl
    assoc false q r = refl

up_proper : (n k d : ℕ) → is_proper (map (mover n) (exchange_up k d)) ≡ true
unfolding is_proper
up_proper n k zero = refl
up_proper n k (suc d) =
    ap is_proper (map-append (mover n) (exchange_up (k + 1) d) (swap k ∷ []))
    ∙ (proper-append (map (mover n) (exchange_up (k + 1) d)) (swap_move n k ∷ []) ∙ ap (λ b. b && true) (up_proper n (k + 1) d))

exchange_proper : (n g h : ℕ) → is_proper (map (mover n) (exchange g h)) ≡ true
exchange_proper n g h = either (ltb g h) (exchange_up g (h - g - 1)) (exchange_up h (g - h - 1)) (up_proper n g (h - g - 1)) (up_proper n h (g - h - 1))
  where
    either : (b : Bool) (u v : List Kind) → is_proper (map (mover n) u) ≡ true → is_proper (map (mover n) v) ≡ true → is_proper (map (mover n) (cond b u v)) ≡ true
    either true u v p q = p
    either false u v p q = q

carry_proper : (n a b : ℕ) (ms : List Move) → is_proper (carry_word n a b ++ ms) ≡ is_proper ms
unfolding carry_kinds is_proper
carry_proper n a b ms =
    proper-append (carry_word n a b) ms
    ∙ ap (λ p. p && is_proper ms)
    (ap is_proper (map-append (mover n) (exchange (a / 2 + 1) (b / 2 + 1)) (invert (cond (a % 2 == b % 2) (a / 2 + 1) (b / 2 + 1)) ∷ []))
    ∙ (proper-append (map (mover n) (exchange (a / 2 + 1) (b / 2 + 1))) (invert_move n (cond (a % 2 == b % 2) (a / 2 + 1) (b / 2 + 1)) ∷ [])
    ∙ ap (λ p. p && true) (exchange_proper n (a / 2 + 1) (b / 2 + 1))))

pub change_proper : (n a b : ℕ) (m k l : Move) → is_proper (m ∷ k ∷ l ∷ []) ≡ is_proper (m ∷ k ∷ (carry_word n a b ++ l ∷ []))
unfolding is_proper
change_proper n a b m k l = ap (λ p. not (is_identity m.kind) && (not (is_identity k.kind) && p)) (sym (carry_proper n a b (l ∷ [])))
