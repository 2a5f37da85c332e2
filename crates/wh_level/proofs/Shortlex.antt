-- Walks in their order: by length, and then move by move.
use Rattle.std.proofs.Common.{◌≡◌, ℕ, ◌+◌, ◌<◌, ◌≤◌, false, List, [], ◌∷◌, ◌++◌, length, refl, sym, ap, ◌∙◌, arith}
use Rattle.std.proofs.lemmas.Bool.{true≢false}
use Rattle.std.proofs.lemmas.Cmp.{upto, tied_itself, ranked}
use Rattle.std.proofs.lemmas.List.{length_push}
use Rattle.std.specs.Cmp.{IsTotalOrder, on_total, then_total, nat_cmp_total, nat_cmp_is}
use Rattle.std.specs.Cmp.Lexicographic.{slice_cmp, lists_total}
use Rattle.std.specs.FinMap.{nat_cmp-IsAntisymmetric}
use Rattle.std.specs.Ordering.{is_gt, nat_cmp, ordering_then, MatchOrdering}
use Rattle.std.specs.declared.cmp.Ordering.{Ordering}
use Rattle.std.specs.declared.cmp.Ordering.TheVariants.{Less, Equal, Greater}
use Rattle.wh_words.specs.Moves.{Move, move_cmp}
use Rattle.wh_moves.specs.MoveOrders.{move_cmp_total, then_nothing}
use Rattle.wh_moves.proofs.PackedOrder.{then_assoc}
use Rattle.wh_level.specs.Searches.{walk_cmp, NoLater, Earlier}

-- ---- the order of walks is total
pub walk_cmp_total : IsTotalOrder walk_cmp
walk_cmp_total = then_total (on_total (λ (p : List Move). length p) nat_cmp_total) (lists_total move_cmp_total)

-- ---- one move more
pushed_moves : (p q : List Move) (m n : Move) → length p ≡ length q → slice_cmp move_cmp (p ++ m ∷ []) (q ++ n ∷ []) ≡ ordering_then (slice_cmp move_cmp p q) (move_cmp m n)
pushed_moves [] [] m n e = then_nothing (move_cmp m n)
pushed_moves [] (y ∷ q) m n e = absurd (omega arith)
pushed_moves (x ∷ p) [] m n e = absurd (omega arith)
pushed_moves (x ∷ p) (y ∷ q) m n e = ap (ordering_then (move_cmp x y)) (pushed_moves p q m n (omega arith)) ∙ then_assoc (move_cmp x y) (slice_cmp move_cmp p q) (move_cmp m n)

pushed_lengths : (p q : List Move) (m n : Move) → nat_cmp (length (p ++ m ∷ [])) (length (q ++ n ∷ [])) ≡ nat_cmp (length p) (length q)
pushed_lengths p q m n = ap (λ a. nat_cmp a (length (q ++ n ∷ []))) (length_push p m) ∙ ap (nat_cmp (length p + 1)) (length_push q n) ∙ one_more (length p) (length q)
  where
    one_more : (a b : ℕ) → nat_cmp (a + 1) (b + 1) ≡ nat_cmp a b
    one_more a b = grind arith

pub pushed : (p q : List Move) (m n : Move) → walk_cmp (p ++ m ∷ []) (q ++ n ∷ []) ≡ ordering_then (walk_cmp p q) (move_cmp m n)
pushed p q m n = by (nat_cmp (length p) (length q)) refl
  where
    tail : Ordering
    tail = slice_cmp move_cmp (p ++ m ∷ []) (q ++ n ∷ [])

    whole : (o : Ordering) → nat_cmp (length p) (length q) ≡ o → ordering_then o tail ≡ ordering_then (ordering_then o (slice_cmp move_cmp p q)) (move_cmp m n)
    whole Less e = refl
    whole Equal e = pushed_moves p q m n (nat_cmp-IsAntisymmetric (length p) (length q) e)
    whole Greater e = refl

    by : (o : Ordering) → nat_cmp (length p) (length q) ≡ o → walk_cmp (p ++ m ∷ []) (q ++ n ∷ []) ≡ ordering_then (walk_cmp p q) (move_cmp m n)
    by o e = ap (λ x. ordering_then x tail) (pushed_lengths p q m n) ∙ whole (nat_cmp (length p) (length q)) refl

-- ---- no later
pub no_later_itself : (p : List Move) → NoLater p p
no_later_itself p = record { holds = ap is_gt (tied_itself walk_cmp_total p) }

pub no_later_from : {p q r : List Move} → NoLater p q → NoLater q r → NoLater p r
no_later_from {p} {q} {r} h k = record { holds = upto walk_cmp_total p q r h.holds k.holds }

pub no_later_when_earlier : {p q : List Move} → Earlier p q → NoLater p q
no_later_when_earlier h = record { holds = ap is_gt h.holds }

then_no_later : (o p : Ordering) → is_gt o ≡ false → is_gt p ≡ false → is_gt (ordering_then o p) ≡ false
then_no_later Less p h k = refl
then_no_later Equal p h k = k
then_no_later Greater p h k = h

pub no_later_pushed : {p q : List Move} (m : Move) → NoLater p q → NoLater (p ++ m ∷ []) (q ++ m ∷ [])
no_later_pushed {p} {q} m h = record { holds = ap is_gt (pushed p q m m) ∙ then_no_later (walk_cmp p q) (move_cmp m m) h.holds (ap is_gt (tied_itself move_cmp_total m)) }

-- ---- earlier
pub earlier_from : {p q r : List Move} → Earlier p q → Earlier q r → Earlier p r
earlier_from {p} {q} {r} h k = record { holds = walk_cmp_total.trans p q r h.holds k.holds }

pub earlier_pushed : {p q : List Move} (m n : Move) → Earlier p q → Earlier (p ++ m ∷ []) (q ++ n ∷ [])
earlier_pushed {p} {q} m n h = record { holds = pushed p q m n ∙ ap (λ o. ordering_then o (move_cmp m n)) h.holds }

pub earlier_by_move : (p : List Move) (m n : Move) → move_cmp m n ≡ Less → Earlier (p ++ m ∷ []) (p ++ n ∷ [])
earlier_by_move p m n h = record { holds = pushed p p m n ∙ ap (λ o. ordering_then o (move_cmp m n)) (tied_itself walk_cmp_total p) ∙ h }

pub earlier_when_shorter : (p q : List Move) → length p < length q → Earlier p q
earlier_when_shorter p q h = record { holds = ap (λ o. ordering_then o (slice_cmp move_cmp p q)) (sym (nat_cmp_is (length p) (length q) Less h)) }

-- ---- what it says
not_longer : (o p : Ordering) (a b : ℕ) → MatchOrdering o (a < b) (a ≡ b) (b < a) → is_gt (ordering_then o p) ≡ false → a ≤ b
not_longer Less p a b h k = omega (arith, h)
not_longer Equal p a b h k = omega (arith, h)
not_longer Greater p a b h k = absurd (true≢false k)

pub no_later_length : {p q : List Move} → NoLater p q → length p ≤ length q
no_later_length {p} {q} h = not_longer (nat_cmp (length p) (length q)) (slice_cmp move_cmp p q) (length p) (length q) (ranked (length p) (length q) (nat_cmp (length p) (length q)) refl) h.holds

pub no_later_moves : {p q : List Move} → NoLater p q → length q ≡ length p → is_gt (slice_cmp move_cmp p q) ≡ false
no_later_moves {p} {q} h e = ap is_gt (sym (ap (λ o. ordering_then o (slice_cmp move_cmp p q)) (ap (nat_cmp (length p)) e ∙ tied_itself nat_cmp_total (length p)))) ∙ h.holds
