-- Round a peak of a cut and a swap or an inversion, by lists of moves.
use Rattle.std.proofs.Common.{◌≡◌, ℕ, ◌*◌, ◌^◌, ◌<◌, ◌≤◌, List, [], ◌∷◌, sym, ap, subst, inl, inr, ◌∙◌, arith}
use Rattle.std.specs.Prelude.{◌⊎◌}
use Rattle.wh_words.specs.Letters.{inverse_letter}
use Rattle.wh_words.specs.LetterSets.{in_set}
use Rattle.wh_words.proofs.LetterMaps.{inverse_below, swap_back, invert_back}
use Rattle.wh_words.specs.Tuples.{TupleData, IsTuple, tuple_length}
use Rattle.wh_words.specs.Moves.{Kind, IsKind, Move, IsMove, IsCut, cut_move, inverse_move}
use Rattle.wh_words.specs.Moves.Kind.{swap, invert, cut}
use Rattle.wh_words.specs.Images.{swap_letter, invert_letter}
use Rattle.wh_words.specs.Action.{act}
use Rattle.wh_words.proofs.Mapped.{swap_turns, invert_turns}
use Rattle.wh_moves.specs.Kinds.{kind_of}
use Rattle.wh_moves.specs.declared.moves.Kind.{Kind as ReadKind}
use Rattle.wh_moves.specs.declared.moves.Kind.TheVariants.{Swap, Invert}
use Rattle.wh_composites.specs.SignedPerms.{IsTurn, letter_map}
use Rattle.wh_graph.proofs.SetNumbers.{holds, omits, holds_back}
use Rattle.wh_peak.specs.Relations.{HasLetters}
use Rattle.wh_peak.specs.Straightness.{IsLowered, IsPeak}
use Rattle.wh_straighten.specs.Lowering.{IsMovedCut}
use Rattle.wh_peak.proofs.Lengths.{len-is, cap, deg}
use Rattle.wh_peak.proofs.KindSteps.{step_of}
use Rattle.wh_peak.proofs.RankedSteps.{Ranked-step, letter_below}
use Rattle.wh_peak.proofs.MapsPastCuts.{LoweredSteps, lower_left, lower_right}
use Rattle.wh_peak.proofs.ExpandedSteps.{turn_length}
use Rattle.wh_peak.proofs.MovesOfRank.{move_of, move_of_rank, cyclic_words}
use Rattle.wh_peak.proofs.StraightLists.{lowered_by_steps}
use Rattle.wh_graph.proofs.NetworkCuts.{omits_back}
use Rattle.wh_straighten.proofs.LoweredRows.{test_of, cut_law, set_is, back_is}

-- A swap or an inversion keeps the length.
pub turn_keeps : (t : TupleData) → IsTuple t → (k : Kind) → IsTurn t.rank k → tuple_length (act t (move_of t.rank k)) ≡ tuple_length t
turn_keeps t is k h = omega (arith, turn_length t.rank k h t.words (cyclic_words t is), len-is t.words, len-is (act t (move_of t.rank k)).words)

module _ (t : TupleData) (is : IsTuple t) (low : t.rank ≤ 26) (a A : ℕ) (u : IsCut t.rank a A) where
  below_degree : tuple_length (act t (cut_move t.rank a A)) < tuple_length t → cap (in_set A) t.words < deg a t.words
  below_degree l = omega (arith, l, cut_law t is a A u)

  pub turn_after : (k : Kind) → IsTurn t.rank k → IsPeak t (cut_move t.rank a A) (move_of t.rank k) → (m : Move) → IsMovedCut t.rank k a A m → (ms : List Move) → ms ≡ move_of t.rank k ∷ inverse_move m ∷ [] →
      IsLowered t (cut_move t.rank a A) (move_of t.rank k) ms
  unfolding lower_right Ranked-step
  turn_after (swap j) h p m c ms e =
      let less : cap (in_set A) t.words < deg a t.words = below_degree (omega (arith, p.falls, turn_keeps t is (swap j) h)) in
      let w : LoweredSteps t.rank t.words (step_of t.rank (cut a A) u) (step_of t.rank (swap j) h) =
      lower_right (swap_letter j) (swap_letter j) (swap_turns j h.0) (swap_turns j h.0) (swap_back j h.0) (swap_back j h.0) a (in_set A) (test_of t.rank a A u)
      t.rank (Ranked-step t.rank (swap j) h).0 (Ranked-step t.rank (swap j) h).1 u.of_rank t.words (cyclic_words t is) less in
      lowered_by_steps t (cut_move t.rank a A) (move_of t.rank (swap j)) is (move_of_rank t.rank (cut a A) low u) (move_of_rank t.rank (swap j) low h) u h w ms
      (e ∙ ap (λ (z : Move). move_of t.rank (swap j) ∷ z ∷ []) (ap inverse_move c.is ∙ back_is t.rank (swap_letter j a) c.set (λ x. in_set A (swap_letter j x)) c.cut c.letters))
  turn_after (invert j) h p m c ms e =
      let less : cap (in_set A) t.words < deg a t.words = below_degree (omega (arith, p.falls, turn_keeps t is (invert j) h)) in
      let w : LoweredSteps t.rank t.words (step_of t.rank (cut a A) u) (step_of t.rank (invert j) h) =
      lower_right (invert_letter j) (invert_letter j) (invert_turns j) (invert_turns j) (invert_back j) (invert_back j) a (in_set A) (test_of t.rank a A u)
      t.rank (Ranked-step t.rank (invert j) h).0 (Ranked-step t.rank (invert j) h).1 u.of_rank t.words (cyclic_words t is) less in
      lowered_by_steps t (cut_move t.rank a A) (move_of t.rank (invert j)) is (move_of_rank t.rank (cut a A) low u) (move_of_rank t.rank (invert j) low h) u h w ms
      (e ∙ ap (λ (z : Move). move_of t.rank (invert j) ∷ z ∷ []) (ap inverse_move c.is ∙ back_is t.rank (invert_letter j a) c.set (λ x. in_set A (invert_letter j x)) c.cut c.letters))
  turn_after (cut b B) h p m c ms e = absurd h

  pub turn_before : (k : Kind) → IsTurn t.rank k → IsPeak t (move_of t.rank k) (cut_move t.rank a A) → (m : Move) → IsMovedCut t.rank k a A m → (ms : List Move) → ms ≡ m ∷ move_of t.rank k ∷ [] →
      IsLowered t (move_of t.rank k) (cut_move t.rank a A) ms
  unfolding lower_left Ranked-step
  turn_before (swap j) h p m c ms e =
      let less : cap (in_set A) t.words < deg a t.words = below_degree (omega (arith, p.falls, turn_keeps t is (swap j) h)) in
      let w : LoweredSteps t.rank t.words (step_of t.rank (swap j) h) (step_of t.rank (cut a A) u) =
      lower_left (swap_letter j) (swap_letter j) (swap_turns j h.0) (swap_turns j h.0) (swap_back j h.0) (swap_back j h.0) a (in_set A) (test_of t.rank a A u)
      t.rank (Ranked-step t.rank (swap j) h).0 (Ranked-step t.rank (swap j) h).1 u.of_rank t.words (cyclic_words t is) less in
      lowered_by_steps t (move_of t.rank (swap j)) (cut_move t.rank a A) is (move_of_rank t.rank (swap j) low h) (move_of_rank t.rank (cut a A) low u) h u w ms
      (e ∙ ap (λ (z : Move). z ∷ move_of t.rank (swap j) ∷ []) (c.is ∙ set_is t.rank (swap_letter j a) c.set (λ x. in_set A (swap_letter j x)) c.cut c.letters))
  turn_before (invert j) h p m c ms e =
      let less : cap (in_set A) t.words < deg a t.words = below_degree (omega (arith, p.falls, turn_keeps t is (invert j) h)) in
      let w : LoweredSteps t.rank t.words (step_of t.rank (invert j) h) (step_of t.rank (cut a A) u) =
      lower_left (invert_letter j) (invert_letter j) (invert_turns j) (invert_turns j) (invert_back j) (invert_back j) a (in_set A) (test_of t.rank a A u)
      t.rank (Ranked-step t.rank (invert j) h).0 (Ranked-step t.rank (invert j) h).1 u.of_rank t.words (cyclic_words t is) less in
      lowered_by_steps t (move_of t.rank (invert j)) (cut_move t.rank a A) is (move_of_rank t.rank (invert j) low h) (move_of_rank t.rank (cut a A) low u) h u w ms
      (e ∙ ap (λ (z : Move). z ∷ move_of t.rank (invert j) ∷ []) (c.is ∙ set_is t.rank (invert_letter j a) c.set (λ x. in_set A (invert_letter j x)) c.cut c.letters))
  turn_before (cut b B) h p m c ms e = absurd h

-- Two swaps or inversions make no peak.
pub turns_no_peak : (t : TupleData) → IsTuple t → (k j : Kind) → IsTurn t.rank k → IsTurn t.rank j → IsPeak t (move_of t.rank k) (move_of t.rank j) → ⊥
turns_no_peak t is k j h g p = omega (arith, p.falls, turn_keeps t is k h, turn_keeps t is j g)

-- ---- as the program finds them
map-twice : (n : ℕ) (k : Kind) → IsTurn n k → (x : ℕ) → letter_map k (letter_map k x) ≡ x
map-twice n (swap j) h x = swap_back j h.0 x
map-twice n (invert j) h x = invert_back j x
map-twice n (cut b B) h x = absurd h

map-turns : (n : ℕ) (k : Kind) → IsTurn n k → (x : ℕ) → letter_map k (inverse_letter x) ≡ inverse_letter (letter_map k x)
map-turns n (swap j) h x = swap_turns j h.0 x
map-turns n (invert j) h x = invert_turns j x
map-turns n (cut b B) h x = absurd h

-- The set of the letters that a swap or an inversion takes into that of a cut makes a cut.
pub moved_is_cut : (n : ℕ) (k : Kind) (a A x S : ℕ) → IsTurn n k → IsCut n a A → x ≡ letter_map k a → HasLetters n S (λ y. in_set A (letter_map k y)) → S < 2 ^ (2 * n) → IsCut n x S
moved_is_cut n k a A x S h u e l w =
    let low : letter_map k a < 2 * n = letter_below n k a h u.of_rank in
    subst (λ (z : ℕ). IsCut n z S) (sym e) (record {
      of_rank = low;
      within = w;
      holds = holds_back S (letter_map k a) (l (letter_map k a) low ∙ (ap (in_set A) (map-twice n k h a) ∙ holds A a u.holds));
      omits = omits_back S (inverse_letter (letter_map k a)) (l (inverse_letter (letter_map k a)) (inverse_below n (letter_map k a) low)
          ∙ (ap (in_set A) (map-turns n k h (letter_map k a) ∙ ap inverse_letter (map-twice n k h a)) ∙ omits A (inverse_letter a) u.omits));
    })

move_is : (n : ℕ) (m : Move) → m.rank ≡ n → m ≡ move_of n m.kind
move_is n m e = ap (λ (z : ℕ). record { rank = z; kind = m.kind }) e

pub cut_is : (n a A : ℕ) (m : Move) → m.rank ≡ n → cut a A ≡ m.kind → m ≡ cut_move n a A
cut_is n a A m e k = move_is n m e ∙ ap (move_of n) (sym k)

-- What the program reads of a swap or an inversion.
pub turn_read : (n : ℕ) (m : Move) (k : ReadKind) → kind_of k ≡ m.kind → IsMove m → m.rank ≡ n → ((x : ℕ) × (k ≡ Swap x)) ⊎ ((x : ℕ) × (k ≡ Invert x)) → IsTurn n m.kind
turn_read n m k e v r (inl (x, q)) =
    let is : swap x ≡ m.kind = sym (ap kind_of q) ∙ e in
    subst (IsTurn n) is (subst (λ (z : ℕ). IsTurn z (swap x)) r (subst (IsKind m.rank) (sym is) v.kind))
turn_read n m k e v r (inr (x, q)) =
    let is : invert x ≡ m.kind = sym (ap kind_of q) ∙ e in
    subst (IsTurn n) is (subst (λ (z : ℕ). IsTurn z (invert x)) r (subst (IsKind m.rank) (sym is) v.kind))

pub before_moves : (t : TupleData) (l r : Move) (a A : ℕ) → IsTuple t → l.rank ≡ t.rank → r.rank ≡ t.rank → IsTurn t.rank l.kind → IsMove r → cut a A ≡ r.kind → IsPeak t l r →
    (m : Move) → IsMovedCut l.rank l.kind a A m → (ms : List Move) → ms ≡ m ∷ l ∷ [] → IsLowered t l r ms
before_moves t l r a A is el er h v k p m c ms e =
    let low : t.rank ≤ 26 = omega (arith, v.rank, er) in
    let u : IsCut t.rank a A = subst (λ (z : ℕ). IsCut z a A) er (subst (IsKind r.rank) (sym k) v.kind) in
    let rl : l ≡ move_of t.rank l.kind = move_is t.rank l el in
    let rr : r ≡ cut_move t.rank a A = cut_is t.rank a A r er k in
    let c' : IsMovedCut t.rank l.kind a A m = subst (λ (z : ℕ). IsMovedCut z l.kind a A m) el c in
    let p' : IsPeak t (move_of t.rank l.kind) (cut_move t.rank a A) = subst (λ (z : Move). IsPeak t (move_of t.rank l.kind) z) rr (subst (λ (z : Move). IsPeak t z r) rl p) in
    subst (λ (z : Move). IsLowered t z r ms) (sym rl) (subst (λ (z : Move). IsLowered t (move_of t.rank l.kind) z ms) (sym rr)
    (turn_before t is low a A u l.kind h p' m c' ms (e ∙ ap (λ (z : Move). m ∷ z ∷ []) rl)))

pub after_moves : (t : TupleData) (r : Move) (a A : ℕ) → IsTuple t → r.rank ≡ t.rank → IsMove r → IsCut t.rank a A → IsTurn t.rank r.kind → IsPeak t (cut_move t.rank a A) r →
    (m : Move) → IsMovedCut r.rank r.kind a A m → (ms : List Move) → ms ≡ r ∷ inverse_move m ∷ [] → IsLowered t (cut_move t.rank a A) r ms
after_moves t r a A is er v u h p m c ms e =
    let low : t.rank ≤ 26 = omega (arith, v.rank, er) in
    let rr : r ≡ move_of t.rank r.kind = move_is t.rank r er in
    let c' : IsMovedCut t.rank r.kind a A m = subst (λ (z : ℕ). IsMovedCut z r.kind a A m) er c in
    subst (λ (z : Move). IsLowered t (cut_move t.rank a A) z ms) (sym rr)
    (turn_after t is low a A u r.kind h (subst (λ (z : Move). IsPeak t (cut_move t.rank a A) z) rr p) m c' ms (e ∙ ap (λ (z : Move). z ∷ inverse_move m ∷ []) rr))

pub no_peak_moves : (t : TupleData) (l r : Move) → IsTuple t → l.rank ≡ t.rank → r.rank ≡ t.rank → IsTurn t.rank l.kind → IsTurn t.rank r.kind → IsPeak t l r → ⊥
no_peak_moves t l r is el er h g p =
    turns_no_peak t is l.kind r.kind h g (subst (λ (z : Move). IsPeak t (move_of t.rank l.kind) z) (move_is t.rank r er) (subst (λ (z : Move). IsPeak t z r) (move_is t.rank l el) p))
