-- Lists in which a cell is written.
use Rattle.std.proofs.Common.{◌≡◌, ◌≢◌, ℕ, zero, suc, ◌+◌, ◌<◌, Bool, true, false, not, cond, List, [], ◌∷◌, ◌++◌, length, set, replicate, Some, slice_get, refl, ap, ◌∙◌, arith}
use Rattle.std.specs.List.{count_by}
use Rattle.std.proofs.lemmas.List.Sums.{sum_by-cons}
use Rattle.std.proofs.lemmas.List.{get_or-replicate, length-replicate, length_push, get_or_push}
use Rattle.std.proofs.lemmas.Option.{slice_get-get_or}

pub slice_get_set_same : {X : Type 0} (xs : List X) (i : ℕ) (y : X) → i < length xs → slice_get (set xs i y) i ≡ Some y
slice_get_set_same [] i y h = absurd (omega arith)
slice_get_set_same (x ∷ xs) zero y h = refl
slice_get_set_same (x ∷ xs) (suc i) y h = slice_get_set_same xs i y (omega arith)

pub slice_get_set_other : {X : Type 0} (xs : List X) (i k : ℕ) (y : X) → k ≢ i → slice_get (set xs i y) k ≡ slice_get xs k
slice_get_set_other [] i k y n = refl
slice_get_set_other (x ∷ xs) zero zero y n = absurd (n refl)
slice_get_set_other (x ∷ xs) zero (suc k) y n = refl
slice_get_set_other (x ∷ xs) (suc i) zero y n = refl
slice_get_set_other (x ∷ xs) (suc i) (suc k) y n = slice_get_set_other xs i k y (λ e. n (ap suc e))

pub slice_get_replicate : {X : Type 0} (n k : ℕ) (y : X) → k < n → slice_get (replicate n y) k ≡ Some y
slice_get_replicate n k y h = slice_get-get_or (replicate n y) k y (omega (arith, length-replicate n y)) ∙ ap Some (get_or-replicate n k y y h)

-- ---- how many places were not seen
more_unseen : (b : Bool) (xs : List Bool) → count_by not (b ∷ xs) ≡ cond (not b) 1 0 + count_by not xs
more_unseen b xs = sum_by-cons (λ c. cond (not c) 1 0) b xs

pub count_unseen_set : (xs : List Bool) (i : ℕ) → slice_get xs i ≡ Some false → count_by not (set xs i true) + 1 ≡ count_by not xs
count_unseen_set [] i h = absurd (cc)
count_unseen_set (true ∷ xs) zero h = absurd (cc)
count_unseen_set (false ∷ xs) zero h = omega (arith, more_unseen true xs, more_unseen false xs)
count_unseen_set (b ∷ xs) (suc i) h = omega (arith, more_unseen b (set xs i true), more_unseen b xs, count_unseen_set xs i h)

pub count_unseen_all : (n : ℕ) → count_by not (replicate n false) ≡ n
count_unseen_all zero = refl
count_unseen_all (suc n) = omega (arith, more_unseen false (replicate n false), count_unseen_all n)

pub count_unseen_push : (xs : List Bool) → count_by not (xs ++ false ∷ []) ≡ count_by not xs + 1
count_unseen_push [] = refl
count_unseen_push (x ∷ xs) = omega (arith, more_unseen x (xs ++ false ∷ []), more_unseen x xs, count_unseen_push xs)

-- ---- a cell more
pub slice_get_before : {X : Type 0} (xs ys : List X) (k : ℕ) (x : X) → slice_get xs k ≡ Some x → slice_get (xs ++ ys) k ≡ Some x
slice_get_before [] ys k x h = absurd (cc)
slice_get_before (z ∷ xs) ys zero x h = h
slice_get_before (z ∷ xs) ys (suc k) x h = slice_get_before xs ys k x h

pub slice_get_last : {X : Type 0} (xs : List X) (x : X) (n : ℕ) → length xs ≡ n → slice_get (xs ++ x ∷ []) n ≡ Some x
slice_get_last xs x n e = slice_get-get_or (xs ++ x ∷ []) n x (omega (arith, e, length_push xs x)) ∙ ap Some (get_or_push xs x x n e)

pub true_before_false : (xs : List Bool) (k : ℕ) → slice_get (xs ++ false ∷ []) k ≡ Some true → slice_get xs k ≡ Some true
true_before_false [] zero h = absurd (cc)
true_before_false [] (suc k) h = h
true_before_false (x ∷ xs) zero h = h
true_before_false (x ∷ xs) (suc k) h = true_before_false xs k h
