-- Lists of pairs, filtered.
use Rattle.std.proofs.Common.{◌≡◌, Bool, true, false, List, [], ◌∷◌, refl, ap, ap₂, ◌∙◌, map}
use Rattle.std.proofs.lemmas.List.Elements.{All-head, All-tail, All-filter, filter-append}
use Rattle.std.specs.Prelude.{cond, ◌&&◌, ◌++◌}
use Rattle.std.specs.List.{All, flat_map, filter}
use Rattle.wh_words.specs.Moves.{Move}
use Rattle.wh_relators.specs.Families.{for_each, always}

module _ {X : Type 0} (p q : X → Bool) where
  filter-cons : (x : X) (xs : List X) → filter p (x ∷ xs) ≡ cond (p x) (x ∷ filter p xs) (filter p xs)
  filter-cons x xs = refl

  pub filter-both : (xs : List X) → filter p (filter q xs) ≡ filter (λ x. q x && p x) xs
  filter-both [] = refl
  filter-both (x ∷ xs) = elim (q x) as (λ b. filter p (cond b (x ∷ filter q xs) (filter q xs)) ≡ cond (b && p x) (x ∷ filter (λ y. q y && p y) xs) (filter (λ y. q y && p y) xs)) [
    | true ↦ ap (λ ys. cond (p x) (x ∷ ys) ys) (filter-both xs)
    | false ↦ filter-both xs
  ]

pub filter-map : {X Y : Type 0} (p : Y → Bool) (f : X → Y) (xs : List X) → filter p (map f xs) ≡ map f (filter (λ x. p (f x)) xs)
filter-map p f [] = refl
filter-map p f (x ∷ xs) = elim (p (f x)) as (λ b. cond b (f x ∷ filter p (map f xs)) (filter p (map f xs)) ≡ map f (cond b (x ∷ filter (λ y. p (f y)) xs) (filter (λ y. p (f y)) xs))) [
  | true ↦ ap (λ ys. f x ∷ ys) (filter-map p f xs)
  | false ↦ filter-map p f xs
]

pub filter-same : {X : Type 0} (W : X → Type 0) (p q : X → Bool) → ((x : X) → W x → p x ≡ q x) → (xs : List X) → All W xs → filter p xs ≡ filter q xs
filter-same W p q h [] k = refl
filter-same W p q h (x ∷ xs) k = ap₂ (λ b ys. cond b (x ∷ ys) ys) (h x (All-head W x xs k)) (filter-same W p q h xs (All-tail W x xs k))

-- The pairs whose lists pass another test.
pub filter-for_each : {X Y : Type 0} (p : List Move → Bool) (xs : List X) (ys : List Y) (test : X → Y → Bool) (word : X → Y → List Move) →
    filter p (for_each xs ys test word) ≡ for_each xs ys (λ x y. test x y && p (word x y)) word
unfolding for_each
filter-for_each p [] ys test word = refl
filter-for_each p (x ∷ xs) ys test word =
    filter-append p (map (word x) (filter (test x) ys)) (flat_map (λ z. map (word z) (filter (test z) ys)) xs)
    ∙ ap₂ (λ us vs. us ++ vs) (filter-map p (word x) (filter (test x) ys) ∙ ap (map (word x)) (filter-both (λ y. p (word x y)) (test x) ys)) (filter-for_each p xs ys test word)

pub for_each-same : {X Y : Type 0} (V : X → Type 0) (W : Y → Type 0) (xs : List X) (ys : List Y) (f g : X → Y → Bool) (word : X → Y → List Move) → All V xs → All W ys → ((x : X) (y : Y) → V x → W y → f x y ≡ g x y) →
    for_each xs ys f word ≡ for_each xs ys g word
unfolding for_each
for_each-same V W [] ys f g word hx hy h = refl
for_each-same V W (x ∷ xs) ys f g word hx hy h =
    ap₂ (λ us vs. us ++ vs) (ap (map (word x)) (filter-same W (f x) (g x) (λ y w. h x y (All-head V x xs hx) w) ys hy)) (for_each-same V W xs ys f g word (All-tail V x xs hx) hy h)

map-map : {X Y Z : Type 0} (f : Y → Z) (g : X → Y) (xs : List X) → map f (map g xs) ≡ map (λ x. f (g x)) xs
map-map f g [] = refl
map-map f g (x ∷ xs) = ap (λ ys. f (g x) ∷ ys) (map-map f g xs)

pub for_each-second : {X Y Z : Type 0} (j : Z → Y) (xs : List X) (zs : List Z) (test : X → Y → Bool) (word : X → Y → List Move) → for_each xs (map j zs) test word ≡ for_each xs zs (λ x z. test x (j z)) (λ x z. word x (j z))
unfolding for_each
for_each-second j [] zs test word = refl
for_each-second j (x ∷ xs) zs test word =
    ap₂ (λ us vs. us ++ vs) (ap (map (word x)) (filter-map (test x) j zs) ∙ map-map (word x) j (filter (λ z. test x (j z)) zs)) (for_each-second j xs zs test word)

pub for_each-first : {X Y Z : Type 0} (i : Z → X) (zs : List Z) (ys : List Y) (test : X → Y → Bool) (word : X → Y → List Move) → for_each (map i zs) ys test word ≡ for_each zs ys (λ z y. test (i z) y) (λ z y. word (i z) y)
unfolding for_each
for_each-first i [] ys test word = refl
for_each-first i (z ∷ zs) ys test word = ap (λ vs. map (word (i z)) (filter (test (i z)) ys) ++ vs) (for_each-first i zs ys test word)

-- A family with one item.
pub for_each-one : {X Y : Type 0} (o : Y) (xs : List X) (word : X → List Move) → map word xs ≡ for_each xs (o ∷ []) always (λ x y. word x)
unfolding for_each
for_each-one o [] word = refl
for_each-one o (x ∷ xs) word = ap (λ vs. word x ∷ vs) (for_each-one o xs word)

map-same : {X Y : Type 0} (W : X → Type 0) (f g : X → Y) → ((x : X) → W x → f x ≡ g x) → (xs : List X) → All W xs → map f xs ≡ map g xs
map-same W f g h [] k = refl
map-same W f g h (x ∷ xs) k = ap₂ (λ y ys. y ∷ ys) (h x (All-head W x xs k)) (map-same W f g h xs (All-tail W x xs k))

pub for_each-words : {X Y : Type 0} (V : X → Type 0) (W : Y → Type 0) (xs : List X) (ys : List Y) (test : X → Y → Bool) (f g : X → Y → List Move) → All V xs → All W ys → ((x : X) (y : Y) → V x → W y → f x y ≡ g x y) →
    for_each xs ys test f ≡ for_each xs ys test g
unfolding for_each
for_each-words V W [] ys test f g hx hy h = refl
for_each-words V W (x ∷ xs) ys test f g hx hy h =
    ap₂ (λ us vs. us ++ vs) (map-same W (f x) (g x) (λ y w. h x y (All-head V x xs hx) w) (filter (test x) ys) (All-filter (test x) W ys hy)) (for_each-words V W xs ys test f g (All-tail V x xs hx) hy h)

-- A family filtered by two tests, with other tests and words that are equal to its own.
pub family_is : {X Y : Type 0} (p q : List Move → Bool) (V : X → Type 0) (W : Y → Type 0) (xs : List X) (ys : List Y) (test other : X → Y → Bool) (word word' : X → Y → List Move) → All V xs → All W ys →
    ((x : X) (y : Y) → V x → W y → ((test x y && q (word x y)) && p (word x y)) ≡ other x y) → ((x : X) (y : Y) → V x → W y → word x y ≡ word' x y) →
    filter p (filter q (for_each xs ys test word)) ≡ for_each xs ys other word'
family_is p q V W xs ys test other word word' hx hy h k =
    ap (filter p) (filter-for_each q xs ys test word)
    ∙ (filter-for_each p xs ys (λ x y. test x y && q (word x y)) word
    ∙ (for_each-same V W xs ys (λ x y. (test x y && q (word x y)) && p (word x y)) other word hx hy h
    ∙ for_each-words V W xs ys other word word' hx hy k))

-- What keeps the length may be told by other means where the test is passed.
pub told_by : (test q p e : Bool) → (test ≡ true → p ≡ e) → ((test && q) && p) ≡ (test && (e && q))
told_by false q p e h = refl
told_by true true p true h = h refl
told_by true true p false h = h refl
told_by true false p true h = refl
told_by true false p false h = refl
