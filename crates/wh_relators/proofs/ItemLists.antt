-- Lists of items, one more each time.
use Rattle.std.proofs.Common.{◌≡◌, ℕ, zero, suc, ◌+◌, ◌-◌, ◌*◌, ◌^◌, ◌≤◌, Bool, true, false, List, [], ◌∷◌, refl, sym, ap, ap₂, ◌∙◌, arith, map}
use Rattle.std.proofs.lemmas.List.{map-append, flat_map_more, append_assoc, append-nil}
use Rattle.std.proofs.lemmas.List.Elements.{filter-append}
use Rattle.std.proofs.lemmas.List.FromFn.{map-range_with_len_more}
use Rattle.std.specs.Prelude.{cond, ◌++◌}
use Rattle.std.specs.List.{flat_map, filter, range_with_len}
use Rattle.wh_relators.specs.Cuts.{Cut, sets, parts, cuts}
use Rattle.wh_relators.specs.Choices.{letter_item, generator_item}

range_more : (a n : ℕ) → range_with_len a (suc n) ≡ range_with_len a n ++ (a + n) ∷ []
range_more a zero = let e : a ≡ a + 0 = omega arith in ap (λ k. k ∷ []) e
range_more a (suc n) = let e : a + 1 + n ≡ a + suc n = omega arith in ap (λ ks. a ∷ ks) (range_more (a + 1) n ∙ ap (λ k. range_with_len (a + 1) n ++ k ∷ []) e)

range_next : (a n : ℕ) → range_with_len a (n + 1) ≡ range_with_len a n ++ (a + n) ∷ []
range_next a n = let e : n + 1 ≡ suc n = omega arith in ap (range_with_len a) e ∙ range_more a n

from_zero : (n : ℕ) → range_with_len 0 (n + 1) ≡ range_with_len 0 n ++ n ∷ []
from_zero n = let e : 0 + n ≡ n = omega arith in range_next 0 n ∙ ap (λ k. range_with_len 0 n ++ k ∷ []) e

abbrev pub one : ℕ → ℕ → Cut
one a set = record { mult = a; set = set }

-- The cuts with a multiplier and a set below a bound.
abbrev pub with_mult : ℕ → ℕ → List Cut
with_mult a k = map (one a) (filter (parts a) (range_with_len 0 k))

with_mult_is : (a k : ℕ) → with_mult a (k + 1) ≡ with_mult a k ++ cond (parts a k) (record { mult = a; set = k } ∷ []) []
with_mult_is a k =
    ap (λ ks. map (one a) (filter (parts a) ks)) (from_zero k)
    ∙ (ap (map (one a)) (filter-append (parts a) (range_with_len 0 k) (k ∷ []))
    ∙ (map-append (one a) (filter (parts a) (range_with_len 0 k)) (cond (parts a k) (k ∷ []) [])
    ∙ ap (λ xs. with_mult a k ++ xs) (out (parts a k))))
  where
    out : (b : Bool) → map (one a) (cond b (k ∷ []) []) ≡ cond b (record { mult = a; set = k } ∷ []) []
    out true = refl
    out false = refl

pub parted_yes : (b : Bool) (xs : List Cut) (x : Cut) → b ≡ true → xs ++ x ∷ [] ≡ xs ++ cond b (x ∷ []) []
parted_yes b xs x e = ap (λ c. xs ++ cond c (x ∷ []) []) (sym e)

pub parted_no : (b : Bool) (xs : List Cut) (x : Cut) → b ≡ false → xs ≡ xs ++ cond b (x ∷ []) []
parted_no b xs x e = sym (ap (λ c. xs ++ cond c (x ∷ []) []) e ∙ append-nil xs)

pub cut_next : (a k set : ℕ) (old list : List Cut) → list ≡ old ++ with_mult a k → set ≡ k → list ++ cond (parts a set) (one a set ∷ []) [] ≡ old ++ with_mult a (k + 1)
cut_next a k set old list h e =
    ap₂ (λ xs z. xs ++ cond (parts a z) (one a z ∷ []) []) h e
    ∙ (append_assoc old (with_mult a k) (cond (parts a k) (one a k ∷ []) []) ∙ ap (λ xs. old ++ xs) (sym (with_mult_is a k)))

pub few_sets : (n : ℕ) → n ≤ 4 → 2 ^ (2 * n) ≤ 256
few_sets zero h = omega arith
few_sets (suc zero) h = omega arith
few_sets (suc (suc zero)) h = omega arith
few_sets (suc (suc (suc zero))) h = omega arith
few_sets (suc (suc (suc (suc zero)))) h = omega arith
few_sets (suc (suc (suc (suc (suc n))))) h = absurd (omega (arith, h))

abbrev pub with_all : ℕ → ℕ → List Cut
with_all n a = map (one a) (filter (parts a) (sets n))

-- The cuts whose multiplier comes before a letter.
abbrev pub cuts_before : ℕ → ℕ → List Cut
cuts_before n k = flat_map (with_all n) (range_with_len 0 k)

pub cuts_more : (n k : ℕ) (list more : List Cut) → list ≡ cuts_before n k → more ≡ list ++ map (one k) (filter (parts k) (sets n)) → more ≡ cuts_before n (k + 1)
cuts_more n k list more h e =
    e ∙ (ap (λ xs. xs ++ map (one k) (filter (parts k) (sets n))) h
    ∙ (more_of (range_with_len 0 k) k
    ∙ ap (flat_map (with_all n)) (sym (from_zero k))))
  where
    more_of : (ks : List ℕ) (j : ℕ) → flat_map (with_all n) ks ++ with_all n j ≡ flat_map (with_all n) (ks ++ j ∷ [])
    more_of ks j = flat_map_more (with_all n) [] ks j

pub all_cuts : (n : ℕ) (list : List Cut) → list ≡ cuts_before n (2 * n) → list ≡ cuts n
unfolding cuts
all_cuts n list h = h

pub letters_more : (k : ℕ) (list more : List Cut) (x : Cut) → list ≡ map letter_item (range_with_len 0 k) → x ≡ letter_item k → more ≡ list ++ x ∷ [] → more ≡ map letter_item (range_with_len 0 (k + 1))
letters_more k list more x h e m =
    let j : 0 + k ≡ k = omega arith in
    m ∙ (ap₂ (λ xs y. xs ++ y ∷ []) h e ∙ sym (map-range_with_len_more letter_item 0 k k j))

pub generators_more : (k : ℕ) (list more : List Cut) (x : Cut) → list ≡ map generator_item (range_with_len 1 k) → x ≡ letter_item (2 * k) → more ≡ list ++ x ∷ [] → more ≡ map generator_item (range_with_len 1 (k + 1))
generators_more k list more x h e m =
    let d : 2 * k ≡ 2 * (k + 1 - 1) = omega arith in
    let j : 1 + k ≡ k + 1 = omega arith in
    m ∙ (ap₂ (λ xs y. xs ++ y ∷ []) h (e ∙ ap letter_item d) ∙ sym (map-range_with_len_more generator_item 1 k (k + 1) j))
