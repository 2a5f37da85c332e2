-- The items that are retained: all chosen pairs are pairs of them.
use Rattle.std.proofs.Common.{◌≡◌, ◌≢◌, ◌⊎◌, ℕ, ◌<◌, ◌≤◌, Bool, true, false, List, [], ◌∷◌, length, get_or, take, refl, sym, ap, ap₂, ◌∙◌, subst, arith, map, inl, inr}
use Rattle.std.proofs.lemmas.List.{drop_more, get_or-take, length-take-le}
use Rattle.std.proofs.lemmas.List.Filters.{FiltersInPlace}
use Rattle.std.proofs.lemmas.List.Elements.{All-filter, All-head, All-tail, All-nil, All-cons}
use Rattle.std.specs.Prelude.{cond, ◌++◌, ◌&&◌}
use Rattle.std.specs.List.{All, filter}
use Rattle.wh_words.specs.Moves.{Move}
use Rattle.wh_relators.specs.declared.family.Family.{Family}
use Rattle.wh_relators.specs.declared.family.Family.TheVariants.{Cancel, Unite, Commute, Conjugate, Exchange, SwapCut, InvertCut, SwapTwice, InvertTwice, Braid, SwapBoth, InvertBoth, SwapInversion, PassInversion, Complement, Inner}
use Rattle.wh_relators.specs.Cuts.{Cut, union, union_less}
use Rattle.wh_relators.specs.Families.{for_each}
use Rattle.wh_relators.specs.Instances.{is_proper}
use Rattle.wh_relators.specs.Kept.{back}
use Rattle.wh_relators.specs.Choices.{firsts, seconds, fits, ends_kept, word_of, chosen, chosen_lists, begins, follows}
use Rattle.wh_relators.specs.Pairs.{Is, IsPair}
use Rattle.wh_relators.proofs.Lists.{and_first, and_second, not_true}
use Rattle.wh_relators.proofs.Sets.{cuts-are}
use Rattle.wh_relators.proofs.PairCuts.{pairs_are}

-- ---- filters
-- What passes the test passes the other one too.
module _ {X : Type 0} (test p : X → Bool) (h : (x : X) → test x ≡ true → p x ≡ true) where
  within-cons : (x : X) (xs : List X) (b c : Bool) → p x ≡ b → test x ≡ c → filter test (filter p xs) ≡ filter test xs → filter test (filter p (x ∷ xs)) ≡ filter test (x ∷ xs)
  within-cons x xs true c e f rest = ap (λ b. filter test (cond b (x ∷ filter p xs) (filter p xs))) e ∙ ap (λ ys. cond (test x) (x ∷ ys) ys) rest
  within-cons x xs false true e f rest = absurd (not_true (p x) (h x f) e)
  within-cons x xs false false e f rest = ap (λ b. filter test (cond b (x ∷ filter p xs) (filter p xs))) e ∙ rest ∙ sym (ap (λ c. cond c (x ∷ filter test xs) (filter test xs)) f)

  filter-within : (xs : List X) → filter test (filter p xs) ≡ filter test xs
  filter-within [] = refl
  filter-within (x ∷ xs) = within-cons x xs (p x) (test x) refl refl (filter-within xs)

module _ {X : Type 0} (test : X → Bool) (h : (x : X) → test x ≡ true → ⊥) where
  none-cons : (x : X) (xs : List X) (b : Bool) → test x ≡ b → filter test xs ≡ [] → filter test (x ∷ xs) ≡ []
  none-cons x xs true e rest = absurd (h x e)
  none-cons x xs false e rest = ap (λ b. cond b (x ∷ filter test xs) (filter test xs)) e ∙ rest

  filter-none : (xs : List X) → filter test xs ≡ []
  filter-none [] = refl
  filter-none (x ∷ xs) = none-cons x xs (test x) refl (filter-none xs)

-- Pairs that pass a test are found among the items that pass others, where these are asked of each pair.
module _ {X Y : Type 0} (p : X → Bool) (q : Y → Bool) (test : X → Y → Bool) (word : X → Y → List Move) (h : (x : X) (y : Y) → test x y ≡ true → p x ≡ true) (k : (x : X) (y : Y) → test x y ≡ true → q y ≡ true) (ys : List Y) where
  pairs-cons : (x : X) (xs : List X) (b : Bool) → p x ≡ b → for_each (filter p xs) (filter q ys) test word ≡ for_each xs ys test word → for_each (filter p (x ∷ xs)) (filter q ys) test word ≡ for_each (x ∷ xs) ys test word
  unfolding for_each
  pairs-cons x xs true e rest =
      ap (λ b. for_each (cond b (x ∷ filter p xs) (filter p xs)) (filter q ys) test word) e
      ∙ ap₂ (λ us vs. map (word x) us ++ vs) (filter-within (test x) q (k x) ys) rest
  pairs-cons x xs false e rest =
      ap (λ b. for_each (cond b (x ∷ filter p xs) (filter p xs)) (filter q ys) test word) e
      ∙ rest ∙ sym (ap (λ us. map (word x) us ++ for_each xs ys test word) (filter-none (test x) (λ y t. not_true (p x) (h x y t) e) ys))

  for_each-within : (xs : List X) → for_each (filter p xs) (filter q ys) test word ≡ for_each xs ys test word
  unfolding for_each
  for_each-within [] = refl
  for_each-within (x ∷ xs) = pairs-cons x xs (p x) refl (for_each-within xs)

pub filter-kept : {X : Type 0} (p : X → Bool) → ((x : X) → p x ≡ true) → (xs : List X) → xs ≡ filter p xs
filter-kept p h [] = refl
filter-kept p h (x ∷ xs) = ap (λ ys. x ∷ ys) (filter-kept p h xs) ∙ sym (ap (λ b. cond b (x ∷ filter p xs) (filter p xs)) (h x))

-- What holds of the first elements holds of the one that is read next, where those from it on are as they were.
pub read_next : {X : Type 0} (P : X → Type 0) (p : X → Bool) (xs ys : List X) (k i count : ℕ) (x : X) → FiltersInPlace p xs ys k i → i < count → count ≤ length xs → x ≡ get_or ys i x → All P (take count xs) → P x
read_next P p xs ys k i count x in_place before within read all =
    let same : get_or ys i x ≡ get_or xs i x =
    ap (λ l. get_or l 0 x) (sym (drop_more ys i x (omega (arith, before, within, in_place.long))) ∙ in_place.rest ∙ drop_more xs i x (omega (arith, before, within))) in
    subst P (get_or-take count xs i x before ∙ sym same ∙ sym read) (all i x (omega (arith, before, length-take-le count xs within)))

-- ---- chosen pairs
-- ---- what is written
pub first_cuts : (n : ℕ) (f : Family) → (f ≡ Unite) ⊎ (f ≡ Commute) → All (Is n) (firsts n f)
first_cuts n f (inl e) = subst (λ (g : Family). All (Is n) (firsts n g)) (sym e) (cuts-are n)
first_cuts n f (inr e) = subst (λ (g : Family). All (Is n) (firsts n g)) (sym e) (cuts-are n)

pub second_cuts : (n : ℕ) (f : Family) → (f ≡ Commute) ⊎ (f ≡ Conjugate) → All (Is n) (seconds n f)
second_cuts n f (inl e) = subst (λ (g : Family). All (Is n) (seconds n g)) (sym e) (cuts-are n)
second_cuts n f (inr e) = subst (λ (g : Family). All (Is n) (seconds n g)) (sym e) (cuts-are n)

-- In the other families a list begins with another move, or doesn't depend on the first alone.
pub begins_else : (k : Cut → Bool) (f : Family) → f ≢ Unite → f ≢ Commute → (x : Cut) → begins k f x ≡ true
begins_else k Cancel h j x = refl
begins_else k Unite h j x = absurd (h refl)
begins_else k Commute h j x = absurd (j refl)
begins_else k Conjugate h j x = refl
begins_else k Exchange h j x = refl
begins_else k SwapCut h j x = refl
begins_else k InvertCut h j x = refl
begins_else k SwapTwice h j x = refl
begins_else k InvertTwice h j x = refl
begins_else k Braid h j x = refl
begins_else k SwapBoth h j x = refl
begins_else k InvertBoth h j x = refl
begins_else k SwapInversion h j x = refl
begins_else k PassInversion h j x = refl
begins_else k Complement h j x = refl
begins_else k Inner h j x = refl

pub follows_else : (k : Cut → Bool) (f : Family) → f ≢ Commute → f ≢ Conjugate → (y : Cut) → follows k f y ≡ true
follows_else k Cancel h j y = refl
follows_else k Unite h j y = refl
follows_else k Commute h j y = absurd (h refl)
follows_else k Conjugate h j y = absurd (j refl)
follows_else k Exchange h j y = refl
follows_else k SwapCut h j y = refl
follows_else k InvertCut h j y = refl
follows_else k SwapTwice h j y = refl
follows_else k InvertTwice h j y = refl
follows_else k Braid h j y = refl
follows_else k SwapBoth h j y = refl
follows_else k InvertBoth h j y = refl
follows_else k SwapInversion h j y = refl
follows_else k PassInversion h j y = refl
follows_else k Complement h j y = refl
follows_else k Inner h j y = refl

module _ (n : ℕ) (k : Cut → Bool) where
  ends : (f : Family) (x y : Cut) → chosen n k f x y ≡ true → ends_kept n k f x y ≡ true
  ends f x y h = and_first (ends_kept n k f x y) (is_proper (word_of n f x y)) (and_second (fits n f x y) (ends_kept n k f x y && is_proper (word_of n f x y)) h)

  first_begins : (f : Family) (x y : Cut) → chosen n k f x y ≡ true → begins k f x ≡ true
  first_begins Cancel x y h = refl
  first_begins Unite x y h = and_first (k x) (k (record { mult = x.mult; set = union n x.set y.set })) (ends Unite x y h)
  first_begins Commute x y h = and_first (k x) (k y) (ends Commute x y h)
  first_begins Conjugate x y h = refl
  first_begins Exchange x y h = refl
  first_begins SwapCut x y h = refl
  first_begins InvertCut x y h = refl
  first_begins SwapTwice x y h = refl
  first_begins InvertTwice x y h = refl
  first_begins Braid x y h = refl
  first_begins SwapBoth x y h = refl
  first_begins InvertBoth x y h = refl
  first_begins SwapInversion x y h = refl
  first_begins PassInversion x y h = refl
  first_begins Complement x y h = refl
  first_begins Inner x y h = refl

  second_follows : (f : Family) (x y : Cut) → chosen n k f x y ≡ true → follows k f y ≡ true
  second_follows Cancel x y h = refl
  second_follows Unite x y h = refl
  second_follows Commute x y h = and_second (k x) (k y) (ends Commute x y h)
  second_follows Conjugate x y h = and_first (k (back y)) (k (record { mult = x.mult; set = union_less n x.set y.set y.mult })) (ends Conjugate x y h)
  second_follows Exchange x y h = refl
  second_follows SwapCut x y h = refl
  second_follows InvertCut x y h = refl
  second_follows SwapTwice x y h = refl
  second_follows InvertTwice x y h = refl
  second_follows Braid x y h = refl
  second_follows SwapBoth x y h = refl
  second_follows InvertBoth x y h = refl
  second_follows SwapInversion x y h = refl
  second_follows PassInversion x y h = refl
  second_follows Complement x y h = refl
  second_follows Inner x y h = refl

  pub family_chosen : (f : Family) (xs ys : List Cut) → xs ≡ filter (begins k f) (firsts n f) → ys ≡ filter (follows k f) (seconds n f) → for_each xs ys (chosen n k f) (word_of n f) ≡ chosen_lists n k f
  unfolding chosen_lists
  family_chosen f xs ys e g =
      ap₂ (λ us vs. for_each us vs (chosen n k f) (word_of n f)) e g
      ∙ for_each-within (begins k f) (follows k f) (chosen n k f) (word_of n f) (first_begins f) (second_follows f) (seconds n f) (firsts n f)

  pub pairs_retained : n ≤ 26 → (f : Family) (xs ys : List Cut) → xs ≡ filter (begins k f) (firsts n f) → ys ≡ filter (follows k f) (seconds n f) → All (λ x. All (IsPair n f x) ys) xs
  pairs_retained few f xs ys e g =
      subst (λ (us : List Cut). All (λ x. All (IsPair n f x) ys) us) (sym e)
      (subst (λ (vs : List Cut). All (λ x. All (IsPair n f x) vs) (filter (begins k f) (firsts n f))) (sym g)
      (All-filter (begins k f) (λ x. All (IsPair n f x) (filter (follows k f) (seconds n f))) (firsts n f) (inner (firsts n f) (pairs_are n few f))))
    where
      inner : (us : List Cut) → All (λ x. All (IsPair n f x) (seconds n f)) us → All (λ x. All (IsPair n f x) (filter (follows k f) (seconds n f))) us
      inner [] h = All-nil (λ x. All (IsPair n f x) (filter (follows k f) (seconds n f)))
      inner (x ∷ us) h =
          All-cons (λ z. All (IsPair n f z) (filter (follows k f) (seconds n f))) x us
          (All-filter (follows k f) (IsPair n f x) (seconds n f) (All-head (λ z. All (IsPair n f z) (seconds n f)) x us h))
          (inner us (All-tail (λ z. All (IsPair n f z) (seconds n f)) x us h))
