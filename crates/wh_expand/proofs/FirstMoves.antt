-- The first level moves of a tuple, one kind after another.
use Rattle.std.proofs.Common.{◌≡◌, ◌≢◌, ℕ, zero, suc, ◌-◌, ◌+◌, ◌*◌, ◌^◌, ◌<◌, ◌≤◌, List, [], ◌∷◌, ◌++◌, get_or, sym, ap, ◌∙◌, subst, inl, inr, arith}
use Rattle.std.specs.Prelude.{Option, Some, IfSome}
use Rattle.std.specs.List.{Contains, All}
use Rattle.std.specs.List.Sorted.{IsStrictlySortedBy}
use Rattle.std.specs.declared.cmp.Ordering.{Ordering}
use Rattle.std.specs.declared.cmp.Ordering.TheVariants.{Less}
use Rattle.std.proofs.lemmas.List.Elements.{Contains-append_left, Contains-push, Contains-push_cases, Contains-get_or, All-from_recursion, recursion_from_All, All-push, All-head, All-tail}
use Rattle.std.specs.Ordering.{nat_cmp, ordering_then}
use Rattle.std.specs.Cmp.{nat_cmp_total}
use Rattle.std.proofs.lemmas.Cmp.{tied_itself}
use Rattle.std.proofs.lemmas.Option.{MatchOption-at_some}
use Rattle.wh_words.specs.LetterSets.{in_set}
use Rattle.wh_words.specs.Tuples.{TupleData, IsTuple}
use Rattle.wh_words.specs.Moves.{Move, Kind, IsKind, IsCut, IsIdentityCut, cut_move, kind_cmp, move_cmp}
use Rattle.wh_words.specs.Moves.Kind.{swap, invert, cut}
use Rattle.wh_words.specs.Levels.{IsLevelMove}
use Rattle.wh_words.specs.Edges.{cap, deg}
use Rattle.wh_graph.proofs.LevelMoves.{made_swap_level, made_invert_level, made_cut_level, level_cut}
use Rattle.wh_graph.specs.CapacityTables.{IsTable, tuple_capacity}
use Rattle.wh_expand.specs.FirstLevelMoves.{AreLevelMovesBefore}
use Rattle.wh_expand.specs.Pieces.{LacksBetween}
use Rattle.wh_expand.specs.Rows.{AreLevelMoves}
use Rattle.wh_expand.proofs.KindOrder.{Follows, none_before, all_before, next_swap, next_invert, next_cut, after_swaps, after_inversions, after_multiplier}

-- ---- a greater key at the end
pub sorted_push : {K : Type 0} (R : K → K → Ordering) (ks : List K) (k : K) → IsStrictlySortedBy R ks → All (λ x. R x k ≡ Less) ks → IsStrictlySortedBy R (ks ++ k ∷ [])
unfolding IsStrictlySortedBy
sorted_push R [] k s h = (tt, tt)
sorted_push R (x ∷ ks) k s h = (
  recursion_from_All (λ y. R x y ≡ Less) (ks ++ k ∷ [])
      (All-push (λ y. R x y ≡ Less) ks k (All-from_recursion (λ y. R x y ≡ Less) ks s.0) (All-head (λ y. R y k ≡ Less) x ks h)),
  sorted_push R ks k s.1 (All-tail (λ y. R y k ≡ Less) x ks h),
)

-- ---- the moves before a kind
less_move : (m b : Move) → m.rank ≡ b.rank → kind_cmp m.kind b.kind ≡ Less → move_cmp m b ≡ Less
less_move m b e h = ap (λ (o : Ordering). ordering_then o (kind_cmp m.kind b.kind)) (ap (λ n. nat_cmp m.rank n) (sym e) ∙ tied_itself nat_cmp_total m.rank) ∙ h

same_move : (m b : Move) → m.rank ≡ b.rank → m.kind ≡ b.kind → m ≡ b
same_move m b e f = ap (λ (n : ℕ). record { rank = n; kind = m.kind }) e ∙ ap (λ (k : Kind). record { rank = b.rank; kind = k }) f

of_rank : (t : TupleData) (m : Move) → IsLevelMove t m → IsKind t.rank m.kind
of_rank t m l = subst (λ (n : ℕ). IsKind n m.kind) l.rank l.valid.kind

pub none_first : (t : TupleData) → AreLevelMovesBefore t (swap 1) []
unfolding IsStrictlySortedBy
none_first t = record {
  sorted = tt;
  exact = λ m. (λ h. absurd (omega (arith, h.1)), λ h. absurd (none_before t.rank m.kind (of_rank t m h.0) h.1));
}

module _ (t : TupleData) (b c : Kind) (ms : List Move) (are : AreLevelMovesBefore t b ms) (next : Follows t.rank b c) where
  pub push_level : (m : Move) → IsLevelMove t m → m.kind ≡ b → AreLevelMovesBefore t c (ms ++ m ∷ [])
  push_level m level e = record {
    sorted = sorted_push move_cmp ms m are.sorted (λ k d l. below (get_or ms k d) (Contains-get_or ms k d l));
    exact = λ x. (there x, back x);
  }
    where
      below : (x : Move) → Contains ms x → move_cmp x m ≡ Less
      below x h =
          let f : IsLevelMove t x × (kind_cmp x.kind b ≡ Less) = (are.exact x).0 h in
          less_move x m (f.0.rank ∙ sym level.rank) (ap (kind_cmp x.kind) e ∙ f.1)

      there : (x : Move) → Contains (ms ++ m ∷ []) x → IsLevelMove t x × (kind_cmp x.kind c ≡ Less)
      there x h = elim (Contains-push_cases ms m x h) [
        | inl k ↦ (let f : IsLevelMove t x × (kind_cmp x.kind b ≡ Less) = (are.exact x).0 k in (f.0, next.on x.kind f.1))
        | inr q ↦ subst (λ (y : Move). IsLevelMove t y × (kind_cmp y.kind c ≡ Less)) q (level, ap (λ k. kind_cmp k c) e ∙ next.here)
      ]

      back : (x : Move) → IsLevelMove t x × (kind_cmp x.kind c ≡ Less) → Contains (ms ++ m ∷ []) x
      back x h = elim (next.back x.kind (of_rank t x h.0) h.1) [
        | inl k ↦ Contains-append_left ms (m ∷ []) x ((are.exact x).1 (h.0, k))
        | inr q ↦ subst (λ (y : Move). Contains (ms ++ m ∷ []) y) (same_move m x (level.rank ∙ sym h.0.rank) (e ∙ sym q)) (Contains-push ms m)
      ]

  pub skip_level : ((m : Move) → IsLevelMove t m → m.kind ≡ b → ⊥) → AreLevelMovesBefore t c ms
  skip_level none = record {
    sorted = are.sorted;
    exact = λ x. (
      λ h. (let f : IsLevelMove t x × (kind_cmp x.kind b ≡ Less) = (are.exact x).0 h in (f.0, next.on x.kind f.1)),
      λ h. elim (next.back x.kind (of_rank t x h.0) h.1) [ inl k ↦ (are.exact x).1 (h.0, k) | inr q ↦ absurd (none x h.0 q) ],
    );
  }

-- ---- swaps and inversions
module _ (t : TupleData) (is : IsTuple t) (n : ℕ) (same : n ≡ t.rank) (rank : n ≤ 26) (ms : List Move) (k : ℕ) (low : 0 < k) (r : Option Move) (m : Move) (made : r ≡ Some m) where
  pub push_swap : IfSome r (λ x. x ≡ record { rank = n; kind = swap k }) → k < n → AreLevelMovesBefore t (swap k) ms → AreLevelMovesBefore t (swap (k + 1)) (ms ++ m ∷ [])
  push_swap swaps l are =
      let e : m ≡ record { rank = n; kind = swap k } = MatchOption-at_some (Unit {0}) (λ x. x ≡ record { rank = n; kind = swap k }) m made swaps in
      push_level t (swap k) (swap (k + 1)) ms are (next_swap t.rank k) m (made_swap_level t is n same (omega (arith, rank, same)) m k e low l) (ap (λ (x : Move). x.kind) e)

  pub push_inversion : IfSome r (λ x. x ≡ record { rank = n; kind = invert k }) → k ≤ n → AreLevelMovesBefore t (invert k) ms → AreLevelMovesBefore t (invert (k + 1)) (ms ++ m ∷ [])
  push_inversion inverts l are =
      let e : m ≡ record { rank = n; kind = invert k } = MatchOption-at_some (Unit {0}) (λ x. x ≡ record { rank = n; kind = invert k }) m made inverts in
      push_level t (invert k) (invert (k + 1)) ms are (next_invert t.rank k) m (made_invert_level t is n same (omega (arith, rank, same)) m k e low l) (ap (λ (x : Move). x.kind) e)

module _ (t : TupleData) (ms : List Move) where
  pub all_swaps : (k : ℕ) → AreLevelMovesBefore t (swap k) ms → t.rank ≤ k → AreLevelMovesBefore t (invert 1) ms
  all_swaps k are h = skip_level t (swap k) (invert 1) ms are (after_swaps t.rank k h) (λ m l e. none m (subst (IsKind t.rank) e (of_rank t m l)))
    where
      none : (m : Move) → IsKind t.rank (swap k) → ⊥
      none m v = omega (arith, v.1, h)

  pub all_inversions : (k : ℕ) → AreLevelMovesBefore t (invert k) ms → t.rank < k → AreLevelMovesBefore t (cut 0 0) ms
  all_inversions k are h = skip_level t (invert k) (cut 0 0) ms are (after_inversions t.rank k h) (λ m l e. none m (subst (IsKind t.rank) e (of_rank t m l)))
    where
      none : (m : Move) → IsKind t.rank (invert k) → ⊥
      none m v = omega (arith, v.1, h)

  pub all_level_moves : (a : ℕ) → AreLevelMovesBefore t (cut a 0) ms → 2 * t.rank ≤ a → AreLevelMoves t ms
  all_level_moves a are h = record {
    sorted = are.sorted;
    exact = λ m. (λ k. ((are.exact m).0 k).0, λ l. (are.exact m).1 (l, all_before t.rank a h m.kind (of_rank t m l)));
  }

  -- ---- cuts
  pub all_sets : (a set : ℕ) → AreLevelMovesBefore t (cut a set) ms → 2 ^ (2 * t.rank) ≤ set → AreLevelMovesBefore t (cut (a + 1) 0) ms
  all_sets a set are h = skip_level t (cut a set) (cut (a + 1) 0) ms are (after_multiplier t.rank a set h) (λ m l e. none m (subst (IsKind t.rank) e (of_rank t m l)))
    where
      none : (m : Move) → IsKind t.rank (cut a set) → ⊥
      none m v = omega (arith, v.within, h)

  pub skip_set : (a set : ℕ) → AreLevelMovesBefore t (cut a set) ms → (IsLevelMove t (cut_move t.rank a set) → ⊥) → AreLevelMovesBefore t (cut a (set + 1)) ms
  skip_set a set are none =
      skip_level t (cut a set) (cut a (set + 1)) ms are (next_cut t.rank a set)
      (λ m l e. none (subst (IsLevelMove t) (same_move m (cut_move t.rank a set) l.rank e) l))

  pub skip_other : (a set : ℕ) → IsTuple t → AreLevelMovesBefore t (cut a set) ms → cap (in_set set) t ≢ deg a t → AreLevelMovesBefore t (cut a (set + 1)) ms
  skip_other a set is are n = skip_set a set are (λ l. n (level_cut t is a set l))

  pub skip_no_cut : (n a set : ℕ) → n ≡ t.rank → AreLevelMovesBefore t (cut a set) ms → ¬ (IsCut n a set) → AreLevelMovesBefore t (cut a (set + 1)) ms
  skip_no_cut n a set same are none = skip_set a set are (λ l. none (subst (λ (k : ℕ). IsCut k a set) (sym same) l.valid.kind))

  -- Sets from one up to another, none of which makes a cut.
  skip_many : (n a set count : ℕ) → n ≡ t.rank → AreLevelMovesBefore t (cut a set) ms → ((v : ℕ) → set ≤ v → v < set + count → ¬ (IsCut n a v)) → AreLevelMovesBefore t (cut a (set + count)) ms
  skip_many n a set zero same are none = let e : set ≡ set + 0 = omega arith in subst (λ s. AreLevelMovesBefore t (cut a s) ms) e are
  skip_many n a set (suc count) same are none =
      let e : set + 1 + count ≡ set + suc count = omega arith in
      subst (λ s. AreLevelMovesBefore t (cut a s) ms) e
      (skip_many n a (set + 1) count same (skip_no_cut n a set same are (none set (omega arith) (omega arith))) (λ v h l. none v (omega (arith, h)) (omega (arith, l))))

  pub skip_sets : (n a set end : ℕ) → n ≡ t.rank → set ≤ end → AreLevelMovesBefore t (cut a set) ms → ((v : ℕ) → set ≤ v → v < end → ¬ (IsCut n a v)) → AreLevelMovesBefore t (cut a end) ms
  skip_sets n a set end same h are none =
      let e : set + (end - set) ≡ end = omega (arith, h) in
      subst (λ s. AreLevelMovesBefore t (cut a s) ms) e (skip_many n a set (end - set) same are (λ v k l. none v k (omega (arith, l, e))))

  skip_unlike : (a set count : ℕ) → IsTuple t → AreLevelMovesBefore t (cut a set) ms → ((v : ℕ) → set ≤ v → v < set + count → cap (in_set v) t ≢ deg a t) → AreLevelMovesBefore t (cut a (set + count)) ms
  skip_unlike a set zero is are other = let e : set ≡ set + 0 = omega arith in subst (λ s. AreLevelMovesBefore t (cut a s) ms) e are
  skip_unlike a set (suc count) is are other =
      let e : set + 1 + count ≡ set + suc count = omega arith in
      subst (λ s. AreLevelMovesBefore t (cut a s) ms) e
      (skip_unlike a (set + 1) count is (skip_other a set is are (other set (omega arith) (omega arith))) (λ v h l. other v (omega (arith, h)) (omega (arith, l))))

  -- Sets from one up to another in a table of capacities, in which the degree doesn't stand.
  pub skip_lacking : (a set end : ℕ) (counts : List ℕ) (degree : ℕ) → IsTuple t → IsTable (tuple_capacity t) (2 ^ (2 * t.rank)) counts → degree ≡ deg a t → set ≤ end → end ≤ 2 ^ (2 * t.rank) → LacksBetween counts degree set end
      → AreLevelMovesBefore t (cut a set) ms → AreLevelMovesBefore t (cut a end) ms
  skip_lacking a set end counts degree is table same order within lacks are =
      let e : set + (end - set) ≡ end = omega (arith, order) in
      subst (λ s. AreLevelMovesBefore t (cut a s) ms) e
      (skip_unlike a set (end - set) is are (λ v h l q. lacks v h (omega (arith, l, e)) (table.each v 0 (omega (arith, l, e, within)) ∙ q ∙ sym same)))

  module _ (n a set : ℕ) (same : n ≡ t.rank) (m : Move) (e : m ≡ cut_move n a set) (are : AreLevelMovesBefore t (cut a set) ms) where
    pub skip_identity : IsIdentityCut m.kind → AreLevelMovesBefore t (cut a (set + 1)) ms
    skip_identity identity = skip_set a set are (λ l. l.moves (subst IsIdentityCut (ap (λ (x : Move). x.kind) e) identity))

    pub push_set : IsTuple t → n ≤ 26 → IsCut n a set → cap (in_set set) t ≡ deg a t → ¬ (IsIdentityCut m.kind) → AreLevelMovesBefore t (cut a (set + 1)) (ms ++ m ∷ [])
    push_set is rank v keeps moves =
        push_level t (cut a set) (cut a (set + 1)) ms are (next_cut t.rank a set) m (made_cut_level t is n same (omega (arith, rank, same)) m a set e v keeps moves)
        (ap (λ (x : Move). x.kind) e)
