-- How many tuples and generators there are where a level hasn't too many edges: two inversions lead from each tuple of rank 2 or more, and a level of rank 1 has two tuples at most.
use Rattle.std.proofs.Common.{◌≡◌, ◌⊎◌, ℕ, zero, suc, ◌+◌, ◌*◌, ◌^◌, ◌<◌, ◌≤◌, List, [], ◌∷◌, length, get_or, map, Some, slice_get, Contains, refl, sym, ap, ap₂, ◌∙◌, subst, arith, inl, inr}
use Rattle.std.proofs.lemmas.Bool.{cases_lt}
use Rattle.std.proofs.lemmas.List.{length-map}
use Rattle.std.proofs.lemmas.Option.{slice_get-get_or}
use Rattle.std.specs.List.{AllByRecursion}
use Rattle.std.specs.List.Sorted.{IsStrictlySortedBy}
use Rattle.std.specs.Ordering.{nat_cmp, ordering_then}
use Rattle.std.specs.declared.cmp.Ordering.{Ordering}
use Rattle.std.specs.declared.cmp.Ordering.TheVariants.{Less, Equal}
use Rattle.wh_words.specs.Letters.{inverse_letter}
use Rattle.wh_words.specs.Tuples.{TupleData, IsTuple, tuple_cmp}
use Rattle.wh_words.specs.Moves.{Kind, Move, IsKind, IsCut, IsIdentityCut, move_cmp}
use Rattle.wh_words.specs.Moves.Kind.{swap, invert, cut}
use Rattle.wh_words.specs.Action.{act}
use Rattle.wh_words.specs.Levels.{IsLevelMove, Reaches, InLevel}
use Rattle.wh_words.specs.Levels.Reaches.{here, step}
use Rattle.wh_words.proofs.Elements.{contains_none, contains_cases, map_contains}
use Rattle.wh_moves.proofs.InverseMoves.{undone}
use Rattle.wh_moves.proofs.Walks.{reached_rank, reached_tuple}
use Rattle.wh_graph.proofs.Lengths.{inversions_keep_words}
use Rattle.wh_peak.specs.Relations.{invert_move}
use Rattle.wh_level.specs.Trees.{LevelData, IsClosedLevel}
use Rattle.wh_level.specs.LevelEdges.{AreEdges}
use Rattle.wh_level.specs.declared.edge_list.Edge.{Edge}
use Rattle.wh_level.proofs.LawProofs.{sorted_within}
use Rattle.wh_level.proofs.LevelEdges.{IsThere, edge_there, stands_in_level}
use Rattle.wh_level.proofs.SearchEnds.{same_places}
use Rattle.wh_stab.specs.Presentations.{Start, start_cmp, PresentationData, IsOffTree, AreGenerators}
use Rattle.wh_stab.specs.Stabilisers.{HasFewEdges}
use Rattle.wh_stab.proofs.Places.{start_cmp_total}

-- ---- rank 1
-- Each cut of rank 1 is an identity cut.
cut_of_one : (a set : ℕ) → IsCut 1 a set → set ≡ 2 ^ a
unfolding inverse_letter
cut_of_one zero set is = omega (arith, is.within, is.holds, is.omits)
cut_of_one (suc zero) set is = omega (arith, is.within, is.holds, is.omits)
cut_of_one (suc (suc a)) set is = absurd (omega (arith, is.of_rank))

kind_of_one : (k : Kind) → IsKind 1 k → ¬ (IsIdentityCut k) → k ≡ invert 1
kind_of_one (swap k) is moves = absurd (omega (arith, is.0, is.1))
kind_of_one (invert k) is moves = ap invert (omega (arith, is.0, is.1))
kind_of_one (cut a set) is moves = absurd (moves (cut_of_one a set is))

move_of_one : (t : TupleData) (m : Move) → t.rank ≡ 1 → IsLevelMove t m → m ≡ invert_move 1 1
move_of_one t m one l =
    let rank : m.rank ≡ 1 = l.rank ∙ one in
    ap₂ (λ (n : ℕ) (k : Kind). record { rank = n; kind = k }) rank (kind_of_one m.kind (subst (λ (n : ℕ). IsKind n m.kind) rank l.valid.kind) l.moves)

module _ (root : TupleData) (is : IsTuple root) (one : root.rank ≡ 1) where
  abbrev IsEither : TupleData → Type 0
  IsEither t = (t ≡ root) ⊎ (t ≡ act root (invert_move 1 1))

  twice : act (act root (invert_move 1 1)) (invert_move 1 1) ≡ root
  twice = undone root (invert_move 1 1) is (record { rank = omega arith; kind = (omega arith, omega arith) })

  moved : (t : TupleData) (m : Move) → IsEither t → IsLevelMove t m → IsEither (act t m)
  moved t m (inl e) l = inr (ap₂ act e (move_of_one t m (ap (λ (u : TupleData). u.rank) e ∙ one) l))
  moved t m (inr e) l = inl (ap₂ act e (move_of_one t m (ap (λ (u : TupleData). u.rank) e ∙ one) l) ∙ twice)

  either : (t u : TupleData) (ms : List Move) → IsEither t → Reaches t ms u → IsEither u
  either t u [] e here = e
  either t u (m ∷ ms) e (step l r) = either (act t m) u ms (moved t m e l) r

  pub in_rank_one : (t : TupleData) → InLevel root t → (t ≡ root) ⊎ (t ≡ act root (invert_move 1 1))
  in_rank_one t (ms, r) = either root t ms (inl refl) r

-- Two tuples at different places of a sorted list are different.
not_twice : (ts : List TupleData) (i j : ℕ) (x y : TupleData) → IsStrictlySortedBy tuple_cmp ts → slice_get ts i ≡ Some x → slice_get ts j ≡ Some y → i < j → x ≡ y → ⊥
not_twice ts i j x y sorted h k l e = omega (arith, same_places ts i j x sorted h (k ∙ ap Some (sym e)), l)

at_most_two : (a b : TupleData) (ts : List TupleData) → IsStrictlySortedBy tuple_cmp ts → ((v : ℕ) (t : TupleData) → slice_get ts v ≡ Some t → (t ≡ a) ⊎ (t ≡ b)) → length ts ≤ 2
at_most_two a b [] sorted each = omega arith
at_most_two a b (x ∷ []) sorted each = omega arith
at_most_two a b (x ∷ y ∷ []) sorted each = omega arith
at_most_two a b (x ∷ y ∷ z ∷ ts) sorted each = absurd (elim (each 0 x refl) [
  | inl ex ↦ elim (each 1 y refl) [
    | inl ey ↦ first (ex ∙ sym ey)
    | inr ey ↦ elim (each 2 z refl) [
      | inl ez ↦ ends (ex ∙ sym ez)
      | inr ez ↦ last (ey ∙ sym ez)
    ]
  ]
  | inr ex ↦ elim (each 1 y refl) [
    | inl ey ↦ elim (each 2 z refl) [
      | inl ez ↦ last (ey ∙ sym ez)
      | inr ez ↦ ends (ex ∙ sym ez)
    ]
    | inr ey ↦ first (ex ∙ sym ey)
  ]
])
  where
    first : x ≡ y → ⊥
    first e = not_twice (x ∷ y ∷ z ∷ ts) 0 1 x y sorted refl refl (omega arith) e

    ends : x ≡ z → ⊥
    ends e = not_twice (x ∷ y ∷ z ∷ ts) 0 2 x z sorted refl refl (omega arith) e

    last : y ≡ z → ⊥
    last e = not_twice (x ∷ y ∷ z ∷ ts) 1 2 y z sorted refl refl (omega arith) e

-- ---- starts of edges
abbrev start_of : Edge → Start
start_of e = (e.from, e.via)

module _ {X Y : Type 0} (f : X → Y) (R : Y → Y → Ordering) where
  all_mapped : (x : X) (xs : List X) → AllByRecursion (λ z. R (f x) (f z) ≡ Less) xs → AllByRecursion (λ y. R (f x) y ≡ Less) (map f xs)
  all_mapped x [] h = tt
  all_mapped x (z ∷ zs) h = (h.0, all_mapped x zs h.1)

  sorted_map : (xs : List X) → IsStrictlySortedBy (λ a b. R (f a) (f b)) xs → IsStrictlySortedBy R (map f xs)
  unfolding IsStrictlySortedBy
  sorted_map [] h = tt
  sorted_map (x ∷ xs) h = (all_mapped x xs h.0, sorted_map xs h.1)

module _ (l : LevelData) (closed : IsClosedLevel l) (es : List Edge) (are : AreEdges l es) where
  starts_sorted : IsStrictlySortedBy start_cmp (map start_of es)
  starts_sorted = sorted_map start_of start_cmp es are.sorted

  -- The start of each edge is listed.
  start_listed : (s : Start) (t : TupleData) → slice_get l.tuples s.0 ≡ Some t → IsLevelMove t s.1 → Contains (map start_of es) s
  start_listed s t at moves =
      let x : IsThere l es s.0 t s.1 = edge_there l es s.0 t s.1 closed are at moves in
      subst (Contains (map start_of es)) (ap (λ (v : ℕ). (v, x.edge.via)) x.from ∙ ap (λ (m : Move). (s.0, m)) x.via) (map_contains start_of es x.edge x.listed)

  -- A sorted list of starts isn't longer than the list of edges.
  starts_within : (ss : List Start) → IsStrictlySortedBy start_cmp ss → ((s : Start) → Contains ss s → Contains (map start_of es) s) → length ss ≤ length es
  starts_within ss sorted h = omega (arith, sorted_within start_cmp_total ss (map start_of es) sorted starts_sorted h, length-map es start_of)

-- ---- generators
pub few_generators : (l : LevelData) (p : PresentationData) (limit : ℕ) → IsClosedLevel l → HasFewEdges l limit → p.vertices ≡ l.tuples → AreGenerators p → length p.generators ≤ limit
few_generators l p limit closed (es, are, few) same gs =
    omega (
      arith,
      starts_within l closed es are p.generators gs.sorted
          (λ s c. let off : IsOffTree p s = (gs.exact s).0 c in start_listed l closed es are s off.tuple (ap (λ (ts : List TupleData). slice_get ts s.0) (sym same) ∙ off.starts) off.moves),
      few,
    )

-- ---- two inversions from each tuple
abbrev inversions_from : ℕ → ℕ → ℕ → List Start
inversions_from n v zero = []
inversions_from n v (suc k) = (v, invert_move n 1) ∷ (v, invert_move n 2) ∷ inversions_from n (v + 1) k

inversions_count : (n v k : ℕ) → length (inversions_from n v k) ≡ 2 * k
inversions_count n v zero = omega arith
inversions_count n v (suc k) = omega (arith, inversions_count n (v + 1) k)

rises : (v w : ℕ) (m k : Move) → v < w → start_cmp (v, m) (w, k) ≡ Less
rises v w m k l = ap (λ (o : Ordering). ordering_then o (move_cmp m k)) (less v w l)
  where
    less : (v w : ℕ) → v < w → nat_cmp v w ≡ Less
    less v w l = search arith

inversions_after : (n v w k : ℕ) (m : Move) → v < w → AllByRecursion (λ s. start_cmp (v, m) s ≡ Less) (inversions_from n w k)
inversions_after n v w zero m l = tt
inversions_after n v w (suc k) m l = (rises v w m (invert_move n 1) l, (rises v w m (invert_move n 2) l, inversions_after n v (w + 1) k m (omega (arith, l))))

one_then_two : (n v : ℕ) → start_cmp (v, invert_move n 1) (v, invert_move n 2) ≡ Less
one_then_two n v = ap₂ (λ (o q : Ordering). ordering_then o (ordering_then q Less)) (same v) (same n)
  where
    same : (k : ℕ) → nat_cmp k k ≡ Equal
    same k = search arith

inversions_sorted : (n v k : ℕ) → IsStrictlySortedBy start_cmp (inversions_from n v k)
unfolding IsStrictlySortedBy
inversions_sorted n v zero = tt
inversions_sorted n v (suc k) =
    ((one_then_two n v, inversions_after n v (v + 1) k (invert_move n 1) (omega arith)), (inversions_after n v (v + 1) k (invert_move n 2) (omega arith), inversions_sorted n (v + 1) k))

-- The start is a place below w with one of the two inversions.
abbrev IsInversion : ℕ → ℕ → Start → Type 0
IsInversion n w s = (s.0 < w) × ((s.1 ≡ invert_move n 1) ⊎ (s.1 ≡ invert_move n 2))

are_inversions : (n v k : ℕ) (s : Start) → Contains (inversions_from n v k) s → IsInversion n (v + k) s
are_inversions n v zero s c = absurd (contains_none s c)
are_inversions n v (suc k) s c = elim (contains_cases (v, invert_move n 1) ((v, invert_move n 2) ∷ inversions_from n (v + 1) k) s c) [
  | inl e ↦ (omega (arith, ap (λ (x : Start). x.0) e), inl (sym (ap (λ (x : Start). x.1) e)))
  | inr d ↦ elim (contains_cases (v, invert_move n 2) (inversions_from n (v + 1) k) s d) [
    | inl e ↦ (omega (arith, ap (λ (x : Start). x.0) e), inr (sym (ap (λ (x : Start). x.1) e)))
    | inr f ↦ let rest : IsInversion n (v + 1 + k) s = are_inversions n (v + 1) k s f in (omega (arith, rest.0), rest.1)
  ]
]

-- The inversion of a generator is a level move of each tuple.
inversion_moves : (t : TupleData) (k : ℕ) → IsTuple t → t.rank ≤ 26 → 0 < k → k ≤ t.rank → IsLevelMove t (invert_move t.rank k)
inversion_moves t k is low some within = record {
  valid = record { rank = low; kind = (some, within) };
  rank = refl;
  kept = inversions_keep_words t k t.rank is.cyclic;
  moves = λ e. e;
}

many_edges : (l : LevelData) (es : List Edge) → IsClosedLevel l → AreEdges l es → IsTuple l.root → 2 ≤ l.root.rank → 2 * length l.tuples ≤ length es
many_edges l es closed are is two =
    omega (
      arith,
      starts_within l closed es are (inversions_from l.root.rank 0 (length l.tuples)) (inversions_sorted l.root.rank 0 (length l.tuples)) listed,
      inversions_count l.root.rank 0 (length l.tuples),
    )
  where
    listed : (s : Start) → Contains (inversions_from l.root.rank 0 (length l.tuples)) s → Contains (map start_of es) s
    listed s c =
        let of : IsInversion l.root.rank (0 + length l.tuples) s = are_inversions l.root.rank 0 (length l.tuples) s c in
        let t : TupleData = get_or l.tuples s.0 l.root in
        let at : slice_get l.tuples s.0 ≡ Some t = slice_get-get_or l.tuples s.0 l.root (omega (arith, of.0)) in
        let walk : InLevel l.root t = stands_in_level l s.0 t closed at in
        let rank : t.rank ≡ l.root.rank = reached_rank walk.1 in
        let moves : (k : ℕ) → 0 < k → k ≤ 2 → IsLevelMove t (invert_move l.root.rank k) = λ k some few.
        subst (λ (n : ℕ). IsLevelMove t (invert_move n k)) rank (inversion_moves t k (reached_tuple is walk.1) (omega (arith, rank, closed.rank)) some (omega (arith, few, rank, two))) in
        start_listed l closed es are s t at (elim of.1 [
          | inl e ↦ subst (IsLevelMove t) (sym e) (moves 1 (omega arith) (omega arith))
          | inr e ↦ subst (IsLevelMove t) (sym e) (moves 2 (omega arith) (omega arith))
        ])

-- ---- tuples
pub few_tuples : (l : LevelData) → IsClosedLevel l → HasFewEdges l 65536 → IsTuple l.root → 1 ≤ l.root.rank → length l.tuples ≤ 32768
few_tuples l closed (es, are, few) is some = elim (cases_lt 1 l.root.rank) [
  | inl two ↦ omega (arith, many_edges l es closed are is (omega (arith, two)), few)
  | inr one ↦
      let rank : l.root.rank ≡ 1 = omega (arith, one, some) in
      omega (
        arith,
        at_most_two l.root (act l.root (invert_move 1 1)) l.tuples closed.level.sorted (λ v t at. in_rank_one l.root is rank t (stands_in_level l v t closed at)),
      )
]
