-- Lists of the chosen pairs, one item more each time.
use Rattle.std.proofs.Common.{◌≡◌, ℕ, ◌+◌, ◌<◌, Bool, List, [], ◌∷◌, length, get_or, take, refl, sym, ap, ap₂, ◌∙◌, map}
use Rattle.std.proofs.lemmas.List.{map-append, append_assoc, length-append, length-map, flat_map_more, take_more, append-nil}
use Rattle.std.proofs.lemmas.List.Elements.{filter_more}
use Rattle.std.proofs.lemmas.List.Filters.{length-filter_more}
use Rattle.std.specs.Prelude.{cond, ◌++◌, ◌&&◌, true, false}
use Rattle.std.specs.List.{flat_map, filter}
use Rattle.wh_words.specs.Moves.{Move}
use Rattle.wh_relators.specs.Families.{for_each}

abbrev pub with_first : {Y : Type 0} → (Y → Bool) → (Y → List Move) → List Y → List (List Move)
with_first test word ys = map word (filter test ys)

pub with_more : {Y : Type 0} (test : Y → Bool) (word : Y → List Move) (ys : List Y) (i : ℕ) (y : Y) (old list new : List (List Move)) → i < length ys → y ≡ get_or ys i y → list ≡ old ++ with_first test word (take i ys) →
    new ≡ list ++ cond (test y) (word y ∷ []) [] → new ≡ old ++ with_first test word (take (i + 1) ys)
with_more {Y = Y} test word ys i y old list new l e h k =
    k ∙ (ap (λ us. us ++ cond (test y) (word y ∷ []) []) h
    ∙ (append_assoc old (with_first test word (take i ys)) (cond (test y) (word y ∷ []) [])
    ∙ ap (λ us. old ++ us) (sym (ap (map word) (filter_more test ys i y l ∙ ap (λ z. filter test (take i ys) ++ cond (test z) (z ∷ []) []) (sym e))
    ∙ (map-append word (filter test (take i ys)) (cond (test y) (y ∷ []) []) ∙ ap (λ us. with_first test word (take i ys) ++ us) (out (test y)))))))
  where
    out : (b : Bool) → map word (cond b (y ∷ []) []) ≡ cond b (word y ∷ []) []
    out true = refl
    out false = refl

pub flat_more : {X A : Type 0} (g : X → List A) (xs : List X) (i : ℕ) (x : X) (old list new : List A) → i < length xs → x ≡ get_or xs i x → list ≡ old ++ flat_map g (take i xs) →
    new ≡ list ++ g x → new ≡ old ++ flat_map g (take (i + 1) xs)
flat_more g xs i x old list new l e h k =
    k ∙ (ap (λ us. us ++ g x) h
    ∙ (flat_map_more g old (take i xs) x
    ∙ ap (λ us. old ++ flat_map g us) (sym (take_more xs i x l ∙ ap (λ z. take i xs ++ z ∷ []) (sym e)))))

pub flat_at : {X A : Type 0} (g : X → List A) (xs : List X) (i : ℕ) (d : X) (old list new : List A) → i < length xs → list ≡ old ++ flat_map g (take i xs) →
    new ≡ list ++ g (get_or xs i d) → new ≡ old ++ flat_map g (take (i + 1) xs)
flat_at g xs i d old list new l h k =
    k ∙ (ap (λ us. us ++ g (get_or xs i d)) h
    ∙ (flat_map_more g old (take i xs) (get_or xs i d)
    ∙ ap (λ us. old ++ flat_map g us) (sym (take_more xs i d l))))

pub pairs_more : {X Y : Type 0} (test : X → Y → Bool) (word : X → Y → List Move) (xs : List X) (ys : List Y) (i : ℕ) (x : X) (old list new : List (List Move)) → i < length xs → x ≡ get_or xs i x →
    list ≡ old ++ for_each (take i xs) ys test word → new ≡ list ++ map (word x) (filter (test x) ys) → new ≡ old ++ for_each (take (i + 1) xs) ys test word
unfolding for_each
pairs_more test word xs ys i x old list new l e h k = flat_more (λ z. map (word z) (filter (test z) ys)) xs i x old list new l e h k

pub pairs_none : {X Y : Type 0} (test : X → Y → Bool) (word : X → Y → List Move) (ys : List Y) (old : List (List Move)) → old ≡ old ++ for_each [] ys test word
unfolding for_each
pairs_none test word ys old = sym (append-nil old)

-- ---- counts
pub counted : {Y : Type 0} (test : Y → Bool) (ys : List Y) (i : ℕ) (y : Y) (b : Bool) (old new : ℕ) → i < length ys → y ≡ get_or ys i y → b ≡ test y → old ≡ length (filter test (take i ys)) → new ≡ old + cond b 1 0 →
    new ≡ length (filter test (take (i + 1) ys))
counted test ys i y b old new l e t h k = k ∙ (ap₂ (λ n c. n + cond c 1 0) h (t ∙ ap test e) ∙ sym (length-filter_more test ys i y l))

pub pairs_counted : {X Y : Type 0} (test : X → Y → Bool) (word : X → Y → List Move) (xs : List X) (ys : List Y) (i : ℕ) (x : X) (old add : ℕ) → i < length xs → x ≡ get_or xs i x →
    old ≡ length (for_each (take i xs) ys test word) → add ≡ length (filter (test x) ys) → old + add ≡ length (for_each (take (i + 1) xs) ys test word)
pairs_counted test word xs ys i x old add l e h k =
    ap₂ (λ m n. m + n) h (k ∙ sym (length-map (filter (test x) ys) (word x)))
    ∙ (sym (length-append (for_each (take i xs) ys test word) (map (word x) (filter (test x) ys)))
    ∙ ap length (pairs_more test word xs ys i x [] (for_each (take i xs) ys test word) (for_each (take i xs) ys test word ++ map (word x) (filter (test x) ys)) l e refl refl))

pub flat_counted : {X A : Type 0} (g : X → List A) (xs : List X) (i : ℕ) (d : X) (old add : ℕ) → i < length xs → old ≡ length (flat_map g (take i xs)) → add ≡ length (g (get_or xs i d)) →
    old + add ≡ length (flat_map g (take (i + 1) xs))
flat_counted g xs i d old add l h k =
    ap₂ (λ m n. m + n) h k
    ∙ (sym (length-append (flat_map g (take i xs)) (g (get_or xs i d)))
    ∙ ap length (flat_at g xs i d [] (flat_map g (take i xs)) (flat_map g (take i xs) ++ g (get_or xs i d)) l refl refl))

-- Two conditions one after the other.
pub both_conds : {A : Type 0} (p q r : Bool) (x : A) → p ≡ (q && r) → (s : Bool) → cond p (cond s (x ∷ []) []) [] ≡ cond (q && (r && s)) (x ∷ []) []
both_conds p true true x e s = ap (λ b. cond b (cond s (x ∷ []) []) []) e
both_conds p true false x e s = ap (λ b. cond b (cond s (x ∷ []) []) []) e
both_conds p false r x e s = ap (λ b. cond b (cond s (x ∷ []) []) []) e
