-- The laws of levels.
use Rattle.std.proofs.Common.{◌≡◌, ◌≤◌, false, List, [], ◌∷◌, length, Contains, refl, sym, ap, ◌∙◌, subst, arith, inl, inr}
use Rattle.std.proofs.lemmas.Bool.{true≢false}
use Rattle.std.proofs.lemmas.Cmp.{eq_by_cmp_equiv}
use Rattle.std.proofs.lemmas.List.Elements.{All-contains}
use Rattle.std.proofs.lemmas.Map.Keys.{sorted_tail}
use Rattle.std.proofs.lemmas.Map.Views.{All-after_first, Contains-from_any, list_any-from_Contains}
use Rattle.std.proofs.lemmas.Map.Made.{length-le_from_is_member}
use Rattle.std.specs.Cmp.{IsTotalOrder}
use Rattle.std.specs.Cmp.Lexicographic.{slice_cmp, lists_total}
use Rattle.std.specs.List.{IsDistinct}
use Rattle.std.specs.List.Sorted.{IsStrictlySortedBy}
use Rattle.std.specs.Ordering.{is_lt, is_gt, eq_by_cmp, ordering_reverse}
use Rattle.std.specs.declared.cmp.Ordering.{Ordering}
use Rattle.std.specs.declared.cmp.Ordering.TheVariants.{Less, Equal, Greater}
use Rattle.wh_words.specs.Tuples.{TupleData, tuple_cmp}
use Rattle.wh_words.proofs.Elements.{contains_none, contains_first, contains_later, contains_cases}
use Rattle.wh_words.proofs.SameTuples.{tuple_cmp_total, tied}
use Rattle.wh_words.specs.Moves.{move_cmp}
use Rattle.wh_words.specs.Action.{act_all}
use Rattle.wh_words.specs.Levels.{InLevel, KeepsLength}
use Rattle.wh_moves.specs.MoveOrders.{move_cmp_total, same_moves}
use Rattle.wh_moves.proofs.Walks.{kept_from_reaches, in_level_from_kept}
use Rattle.wh_level.specs.Laws.{LevelIsWhatIsReached, LevelIsUnique, LimitIsExact, FirstWalkIsUnique}

-- ---- sorted lists with the same elements
less_twice : {K : Type 0} {R : K → K → Ordering} (o : IsTotalOrder R) (x y : K) → R x y ≡ Less → R y x ≡ Less → ⊥
less_twice o x y h k = true≢false (ap is_lt (sym h ∙ o.antisymm x y ∙ ap ordering_reverse k))

pub less_itself : {K : Type 0} {R : K → K → Ordering} (o : IsTotalOrder R) (x : K) → R x x ≡ Less → ⊥
less_itself o x h = less_twice o x x h h

after : {K : Type 0} (R : K → K → Ordering) (x : K) (xs : List K) (z : K) → IsStrictlySortedBy R (x ∷ xs) → Contains xs z → R x z ≡ Less
after R x xs z s c = All-contains (λ q. R x q ≡ Less) xs z (All-after_first R x xs s) c

rest_within : {K : Type 0} {R : K → K → Ordering} (o : IsTotalOrder R) (x y : K) (xs ys : List K) → x ≡ y → IsStrictlySortedBy R (x ∷ xs) → ((z : K) → Contains (x ∷ xs) z → Contains (y ∷ ys) z) → (z : K) → Contains xs z → Contains ys z
rest_within {R = R} o x y xs ys e s h z c = elim (contains_cases y ys z (h z (contains_later x xs z c))) [
  | inl is ↦ absurd (less_itself o x (subst (λ q. R x q ≡ Less) (sym (e ∙ is)) (after R x xs z s c)))
  | inr k ↦ k
]

pub sorted_same : {K : Type 0} {R : K → K → Ordering} (o : IsTotalOrder R) (xs ys : List K) → IsStrictlySortedBy R xs → IsStrictlySortedBy R ys → ((z : K) → Contains xs z → Contains ys z) → ((z : K) → Contains ys z → Contains xs z) → xs ≡ ys
sorted_same o [] [] s u h k = refl
sorted_same o [] (y ∷ ys) s u h k = absurd (contains_none y (k y (contains_first y ys)))
sorted_same o (x ∷ xs) [] s u h k = absurd (contains_none x (h x (contains_first x xs)))
sorted_same {K} {R} o (x ∷ xs) (y ∷ ys) s u h k =
    let e : x ≡ y = elim (contains_cases y ys x (h x (contains_first x xs))) [
      | inl is ↦ sym is
      | inr c ↦ elim (contains_cases x xs y (k y (contains_first y ys))) [
        | inl is ↦ is
        | inr d ↦ absurd (less_twice o x y (after R x xs y s d) (after R y ys x u c))
      ]
    ] in
    let rest : xs ≡ ys = sorted_same o xs ys (sorted_tail R x xs s) (sorted_tail R y ys u) (rest_within o x y xs ys e s h) (rest_within o y x ys xs (sym e) u k) in
    ap (λ z. z ∷ xs) e ∙ ap (λ l. y ∷ l) rest

-- The one has no more elements than the other where it has no others.
pub sorted_within : {K : Type 0} {R : K → K → Ordering} (o : IsTotalOrder R) (xs ys : List K) → IsStrictlySortedBy R xs → IsStrictlySortedBy R ys → ((z : K) → Contains xs z → Contains ys z) → length xs ≤ length ys
sorted_within o [] ys s u h = omega arith
sorted_within o (x ∷ xs) [] s u h = absurd (contains_none x (h x (contains_first x xs)))
sorted_within {K} {R} o (x ∷ xs) (y ∷ ys) s u h = elim (contains_cases y ys x (h x (contains_first x xs))) [
  | inl is ↦ omega (arith, sorted_within o xs ys (sorted_tail R x xs s) (sorted_tail R y ys u) (rest_within o x y xs ys (sym is) s h))
  | inr c ↦
      let later : (z : K) → Contains (x ∷ xs) z → Contains ys z = λ z d. elim (contains_cases y ys z (h z d)) [
        | inl is ↦ elim (contains_cases x xs z d) [
          | inl same ↦ absurd (less_itself o x (subst (λ q. R q x ≡ Less) (is ∙ sym same) (after R y ys x u c)))
          | inr e ↦ absurd (less_twice o x y (subst (λ q. R x q ≡ Less) (sym is) (after R x xs z s e)) (after R y ys x u c))
        ]
        | inr k ↦ k
      ] in
      omega (arith, sorted_within o (x ∷ xs) ys s (sorted_tail R y ys u) later)
]

pub level_unique : LevelIsUnique
level_unique root ts us l m =
    sorted_same tuple_cmp_total ts us l.sorted m.sorted (λ t c. (m.exact t).1 ((l.exact t).0 c)) (λ t c. (l.exact t).1 ((m.exact t).0 c))

-- ---- one first walk
gt_flipped : (o p : Ordering) → o ≡ ordering_reverse p → is_gt o ≡ false → is_gt p ≡ false → o ≡ Equal
gt_flipped Less Less e h k = absurd (true≢false (ap is_lt e))
gt_flipped Less Equal e h k = absurd (true≢false (ap is_lt e))
gt_flipped Less Greater e h k = absurd (true≢false k)
gt_flipped Equal p e h k = refl
gt_flipped Greater p e h k = absurd (true≢false h)

pub first_walk_unique : FirstWalkIsUnique
first_walk_unique root t ms ns p q =
    let e : length ns ≡ length ms = omega (arith, p.shortest ns q.leads, q.shortest ms p.leads) in
    same_moves ms ns (gt_flipped (slice_cmp move_cmp ms ns) (slice_cmp move_cmp ns ms) ((lists_total move_cmp_total).antisymm ms ns) (p.first ns q.leads e) (q.first ms p.leads (sym e)))

-- ---- more than a limit
pub no_more : (ts us : List TupleData) → IsDistinct (eq_by_cmp tuple_cmp) us → ((t : TupleData) → Contains us t → Contains ts t) → length us ≤ length ts
no_more ts us d within =
    length-le_from_is_member (eq_by_cmp_equiv tuple_cmp_total) us ts d
    (λ t h. list_any-from_Contains (eq_by_cmp_equiv tuple_cmp_total) t ts (within t (Contains-from_any tied t us h)))

pub limit_exact : LimitIsExact
limit_exact root ts limit l m few =
    omega (arith, m.more, no_more ts m.tuples m.distinct (λ t c. (l.exact t).1 (All-contains (InLevel root) m.tuples t m.within c)), few)

-- ---- what a level is
pub level_reached : LevelIsWhatIsReached
level_reached root t is = (
  λ r.
      let both : KeepsLength root r.0 × (act_all root r.0 ≡ t) = kept_from_reaches r.1 in
      record { moves = r.0; keeps = both.0; leads = both.1 },
  λ r. subst (InLevel root) r.leads (in_level_from_kept is r.keeps),
)
