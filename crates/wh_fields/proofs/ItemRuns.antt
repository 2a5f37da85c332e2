-- What 0, 1 and so on give, one after the other from the front: for the law on printed answers.
use Rattle.std.proofs.Common.{◌≡◌, ℕ, zero, suc, ◌+◌, ◌*◌, ◌<◌, List, [], ◌++◌, sym, ap, ◌∙◌, refl, arith, append_assoc, append-nil}
use Rattle.std.specs.List.{All}
use Rattle.std.proofs.lemmas.List.Elements.{All-nil, All-append}
use Rattle.wh_fields.specs.Repeated.{below}
use Rattle.wh_fields.specs.FlowFields.{pair_item, pair_fields}

-- The items of i, i + 1 and so on, of k numbers in all.
unfoldable pub items_from : {A : Type 0} → (ℕ → List A) → ℕ → ℕ → List A
items_from item i zero = []
items_from item i (suc k) = item i ++ items_from item (i + 1) k

items_last : {A : Type 0} (item : ℕ → List A) (i k : ℕ) → items_from item i (suc k) ≡ items_from item i k ++ item (i + k)
unfolding items_from
items_last item i zero = append-nil (item i) ∙ ap item (omega arith)
items_last item i (suc k) =
    ap (λ v. item i ++ v) (items_last item (i + 1) k) ∙ sym (append_assoc (item i) (items_from item (i + 1) k) (item (i + 1 + k)))
    ∙ ap (λ j. (item i ++ items_from item (i + 1) k) ++ item j) (omega arith)

pub below_is : {A : Type 0} (item : ℕ → List A) (k : ℕ) → below item k ≡ items_from item 0 k
unfolding below items_from
below_is item zero = refl
below_is item (suc k) = ap (λ v. v ++ item k) (below_is item k) ∙ ap (λ j. items_from item 0 k ++ item j) (omega arith) ∙ sym (items_last item 0 k)

items_same : {A : Type 0} (f g : ℕ → List A) (i k : ℕ) → ((j : ℕ) → f j ≡ g j) → items_from f i k ≡ items_from g i k
unfolding items_from
items_same f g i zero e = refl
items_same f g i (suc k) e = ap (λ v. v ++ items_from f (i + 1) k) (e i) ∙ ap (λ v. g i ++ v) (items_same f g (i + 1) k e)

-- the pairs of a flow, from the front
abbrev pub pair_items : ℕ → List ℕ → List (List ℕ)
pair_items n f = items_from (λ x. items_from (pair_item f x) 0 (2 * n)) 0 (2 * n)

pub pair_fields_are : (n : ℕ) (f : List ℕ) → pair_fields n f ≡ pair_items n f
pair_fields_are n f =
    below_is (λ x. below (pair_item f x) (2 * n)) (2 * n)
    ∙ items_same (λ x. below (pair_item f x) (2 * n)) (λ x. items_from (pair_item f x) 0 (2 * n)) 0 (2 * n) (λ x. below_is (pair_item f x) (2 * n))

pub items_all : {A : Type 0} (P : A → Type 0) (item : ℕ → List A) (i k end : ℕ) → i + k ≡ end → ((j : ℕ) → j < end → All P (item j)) → All P (items_from item i k)
unfolding items_from
items_all P item i zero end e h = All-nil P
items_all P item i (suc k) end e h = All-append P (item i) (items_from item (i + 1) k) (h i (omega (arith, e))) (items_all P item (i + 1) k end (omega (arith, e)) h)
