-- The turned cuts among the level moves of a tuple leave it as it is, or act as level moves before them.
use Rattle.std.proofs.Common.{◌≡◌, ◌⊎◌, ℕ, ◌*◌, ◌/◌, ◌%◌, ◌<◌, List, length, get_or, refl, sym, ap, ◌∙◌, subst, inl, inr, arith}
use Rattle.std.specs.Prelude.{Contains}
use Rattle.std.proofs.lemmas.Bool.{cases_lt, true≢false}
use Rattle.std.proofs.lemmas.Cmp.{tied_itself}
use Rattle.std.proofs.lemmas.List.{get_or_default}
use Rattle.std.proofs.lemmas.Map.Keys.{Less-from_sorted}
use Rattle.std.specs.Cmp.{nat_cmp_is}
use Rattle.std.specs.List.Sorted.{IsStrictlySortedBy}
use Rattle.std.specs.Ordering.{is_lt, nat_cmp, ordering_then}
use Rattle.std.specs.declared.cmp.Ordering.TheVariants.{Less, Equal}
use Rattle.wh_words.specs.Tuples.{TupleData, IsTuple}
use Rattle.wh_words.specs.Moves.{Kind, Move, cut_move, kind_cmp, move_cmp}
use Rattle.wh_words.specs.Moves.Kind.{swap, invert, cut}
use Rattle.wh_words.specs.Action.{act}
use Rattle.wh_words.specs.Levels.{IsLevelMove}
use Rattle.wh_moves.specs.MoveOrders.{move_cmp_total}
use Rattle.wh_graph.proofs.ComplementCuts.{inverse_even}
use Rattle.wh_graph.proofs.TurnedCuts.{ActsAsGenerator, turned_cut}
use Rattle.wh_graph.proofs.TurnedCuts.ActsAsGenerator.{itself, generator}
use Rattle.wh_expand.specs.Rows.{AreLevelMoves}
use Rattle.wh_expand.specs.TurnedCuts.{IsTurnedCut}

turned_less : (n a set other : ℕ) → a % 2 ≡ 1 → move_cmp (cut_move n (2 * (a / 2)) other) (cut_move n a set) ≡ Less
turned_less n a set other h =
    ap (λ o. ordering_then o (kind_cmp (cut (2 * (a / 2)) other) (cut a set))) (sym (nat_cmp_is n n Equal refl))
    ∙ ap (λ o. ordering_then o (nat_cmp other set)) (sym (nat_cmp_is (2 * (a / 2)) a Less (omega (arith, h))))

less_other : (m n : Move) → move_cmp n m ≡ Less → move_cmp m n ≡ Less → ⊥
less_other m n h k = true≢false (ap is_lt (sym (move_cmp_total.trans m n m k h) ∙ tied_itself move_cmp_total m))

-- In a sorted list the lesser move stands before.
less_before : (ms : List Move) (i k : ℕ) (m n : Move) → IsStrictlySortedBy move_cmp ms → k < length ms → get_or ms i m ≡ m → get_or ms k n ≡ n → move_cmp n m ≡ Less → k < i
less_before ms i k m n sorted within at_i at_k h = elim (cases_lt k i) [
  | inl before ↦ before
  | inr past ↦ elim (cases_lt i k) [
    | inl after ↦
        absurd (less_other m n h
        (subst (λ (x : Move). move_cmp x n ≡ Less) at_i
        (subst (λ (y : Move). move_cmp (get_or ms i m) y ≡ Less) (get_or_default ms k m n within ∙ at_k) (Less-from_sorted move_cmp ms i k m sorted after within))))
    | inr here ↦ (
        let same : k ≡ i = omega (arith, past, here) in
        let one : n ≡ m = sym at_k ∙ get_or_default ms k n m within ∙ ap (λ j. get_or ms j m) same ∙ at_i in
        absurd (true≢false (ap is_lt (sym (ap (λ (x : Move). move_cmp x m) (sym one) ∙ h) ∙ tied_itself move_cmp_total m))))
  ]
]

pub turned_acts_before : (t : TupleData) (ms : List Move) (i : ℕ) (m : Move) → IsTuple t → AreLevelMoves t ms → i < length ms → m ≡ get_or ms i m → IsTurnedCut m.kind →
    (act t m ≡ t) ⊎ ((k : ℕ) × (k < i) × ((d : Move) → act t (get_or ms k d) ≡ act t m))
turned_acts_before t ms i m is row within at = by m.kind refl
  where
    level : IsLevelMove t m
    level = (row.exact m).0 (i, within, sym at)

    from : (a set : ℕ) → a % 2 ≡ 1 → m ≡ cut_move t.rank a set → ActsAsGenerator t a set → (act t m ≡ t) ⊎ ((k : ℕ) × (k < i) × ((d : Move) → act t (get_or ms k d) ≡ act t m))
    from a set h own (itself same) = inl (ap (act t) own ∙ same)
    from a set h own (generator other l same) =
        let n : Move = cut_move t.rank (2 * (a / 2)) other in
        let c : Contains ms n = (row.exact n).1 l in
        inr (
          c.0,
          less_before ms i c.0 m n row.sorted c.1 (sym at) c.2 (ap (move_cmp n) own ∙ turned_less t.rank a set other h),
          λ d. ap (act t) (get_or_default ms c.0 d n c.1 ∙ c.2) ∙ same ∙ ap (act t) (sym own),
        )

    by : (k : Kind) → m.kind ≡ k → IsTurnedCut k → (act t m ≡ t) ⊎ ((k : ℕ) × (k < i) × ((d : Move) → act t (get_or ms k d) ≡ act t m))
    by (swap j) e h = absurd h
    by (invert j) e h = absurd h
    by (cut a set) e h =
        let own : m ≡ cut_move t.rank a set = ap (λ (n : ℕ). record { rank = n; kind = m.kind }) level.rank ∙ ap (λ (k : Kind). record { rank = t.rank; kind = k }) e in
        from a set h own (turned_cut t a set is (omega (arith, h, inverse_even (a / 2))) (subst (IsLevelMove t) own level))
