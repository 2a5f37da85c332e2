-- Lists made of the pairs of two lists that pass a test.
use Rattle.std.proofs.Common.{◌≡◌, ℕ, zero, suc, ◌+◌, ◌<◌, ◌≤◌, Bool, true, false, List, [], ◌∷◌, refl, sym, arith, map, get_or}
use Rattle.std.proofs.lemmas.List.Elements.{All-nil, All-cons, All-head, All-tail, All-append, All-map, All-filter, filter_passes}
use Rattle.std.specs.Prelude.{◌&&◌}
use Rattle.std.specs.List.{All, flat_map, filter, range_with_len}
use Rattle.wh_words.specs.Moves.{Move}
use Rattle.wh_relators.specs.Families.{for_each}

-- ---- tests
pub and_first : (p q : Bool) → (p && q) ≡ true → p ≡ true
and_first true q h = refl
and_first false q h = h

pub and_second : (p q : Bool) → (p && q) ≡ true → q ≡ true
and_second true q h = h
and_second false q h = absurd (false_is_not_true h)
  where
    false_is_not_true : false ≡ true → ⊥
    false_is_not_true e = grind (arith, e)

pub not_true : (p : Bool) → p ≡ true → p ≡ false → ⊥
not_true p h e = grind (arith, h, e)

pub same_tests : (p q : Bool) → (p ≡ true → q ≡ true) → (q ≡ true → p ≡ true) → p ≡ q
same_tests true true h k = refl
same_tests true false h k = sym (h refl)
same_tests false true h k = k refl
same_tests false false h k = refl

-- ---- elements
module _ {X Y : Type 0} (P : Y → Type 0) where
  pub All-flat_map : (f : X → List Y) (xs : List X) → All (λ x. All P (f x)) xs → All P (flat_map f xs)
  All-flat_map f [] h = All-nil P
  All-flat_map f (x ∷ xs) h = All-append P (f x) (flat_map f xs) (All-head (λ y. All P (f y)) x xs h) (All-flat_map f xs (All-tail (λ y. All P (f y)) x xs h))

pub All-both : {X : Type 0} (P Q R : X → Type 0) → ((x : X) → P x → Q x → R x) → (xs : List X) → All P xs → All Q xs → All R xs
All-both P Q R f xs h k i d l = f (get_or xs i d) (h i d l) (k i d l)

pub All-every : {X : Type 0} (P : X → Type 0) → ((x : X) → P x) → (xs : List X) → All P xs
All-every P f [] = All-nil P
All-every P f (x ∷ xs) = All-cons P x xs (f x) (All-every P f xs)

pub All-range : (P : ℕ → Type 0) (a n : ℕ) → ((x : ℕ) → a ≤ x → x < a + n → P x) → All P (range_with_len a n)
All-range P a zero h = All-nil P
All-range P a (suc n) h = All-cons P a (range_with_len (a + 1) n) (h a (omega arith) (omega arith)) (All-range P (a + 1) n (λ x l r. h x (omega (arith, l)) (omega (arith, r))))

-- What holds of the list of each pair that passes the test.
pub All-for_each : {X Y : Type 0} (P : List Move → Type 0) (V : X → Type 0) (W : Y → Type 0) (xs : List X) (ys : List Y) (test : X → Y → Bool) (word : X → Y → List Move) →
    All V xs → All W ys → ((x : X) (y : Y) → V x → W y → test x y ≡ true → P (word x y)) → All P (for_each xs ys test word)
unfolding for_each
All-for_each {X = X} P V W xs ys test word hx hy h = All-flat_map P (λ x. map (word x) (filter (test x) ys)) xs (inner xs hx)
  where
    inner : (zs : List X) → All V zs → All (λ x. All P (map (word x) (filter (test x) ys))) zs
    inner [] k = All-nil (λ x. All P (map (word x) (filter (test x) ys)))
    inner (x ∷ zs) k = All-cons (λ x. All P (map (word x) (filter (test x) ys))) x zs
        (All-map P (word x) (filter (test x) ys)
        (All-both W (λ y. test x y ≡ true) (λ y. P (word x y)) (λ y w e. h x y (All-head V x zs k) w e) (filter (test x) ys) (All-filter (test x) W ys hy) (filter_passes (test x) ys)))
        (inner zs (All-tail V x zs k))
