-- Packed moves are ordered as their numbers, and what packs a move.
use Rattle.std.proofs.Common.{◌≡◌, ℕ, zero, suc, ◌+◌, ◌-◌, ◌*◌, ◌/◌, ◌%◌, ◌^◌, ◌<◌, ◌≤◌, refl, sym, ap, ◌∙◌, subst, arith}
use Rattle.std.proofs.lemmas.Bool.Decides.{nat_tests}
use Rattle.std.proofs.lemmas.Cmp.{by_ranked, ranked}
use Rattle.std.specs.Cmp.{nat_cmp_is}
use Rattle.std.specs.Ordering.{nat_cmp, ordering_then}
use Rattle.std.specs.declared.cmp.Ordering.{Ordering}
use Rattle.std.specs.declared.cmp.Ordering.TheVariants.{Less, Equal, Greater}
use Rattle.std.proofs.Math.Nat.{pow-le-pow_right}
use Rattle.wh_words.specs.Limits.{most_rank}
use Rattle.wh_words.specs.Letters.{inverse_letter}
use Rattle.wh_words.specs.Moves.{Kind, Move, IsMove, IsKind, IsCut, kind_cmp, move_cmp, inverse_kind, inverse_move, turned_set}
use Rattle.wh_moves.proofs.InverseMoves.{inverse_is_kind, inverse_is_move}
use Rattle.wh_words.specs.Moves.Kind.{swap, invert, cut}
use Rattle.wh_moves.specs.Packing.{kind_of_code, unpacked}

pub less_is : (a b : ℕ) → a < b → nat_cmp a b ≡ Less
less_is a b h = sym (nat_cmp_is a b Less h)

more_is : (a b : ℕ) → b < a → nat_cmp a b ≡ Greater
more_is a b h = sym (nat_cmp_is a b Greater h)

first_less : (a b : ℕ) (o : Ordering) → a < b → Less ≡ ordering_then (nat_cmp a b) o
first_less a b o h = sym (ap (λ p. ordering_then p o) (less_is a b h))

first_more : (a b : ℕ) (o : Ordering) → b < a → Greater ≡ ordering_then (nat_cmp a b) o
first_more a b o h = sym (ap (λ p. ordering_then p o) (more_is a b h))

kinds_cmp : (c d r s : ℕ) → kind_cmp (kind_of_code c r) (kind_of_code d s) ≡ ordering_then (nat_cmp c d) (nat_cmp r s)
kinds_cmp zero zero r s = refl
kinds_cmp zero (suc zero) r s = refl
kinds_cmp zero (suc (suc b)) r s = first_less 0 (suc (suc b)) (nat_cmp r s) (omega arith)
kinds_cmp (suc zero) zero r s = refl
kinds_cmp (suc zero) (suc zero) r s = refl
kinds_cmp (suc zero) (suc (suc b)) r s = first_less 1 (suc (suc b)) (nat_cmp r s) (omega arith)
kinds_cmp (suc (suc a)) zero r s = first_more (suc (suc a)) 0 (nat_cmp r s) (omega arith)
kinds_cmp (suc (suc a)) (suc zero) r s = first_more (suc (suc a)) 1 (nat_cmp r s) (omega arith)
kinds_cmp (suc (suc a)) (suc (suc b)) r s = ap (λ o. ordering_then o (nat_cmp r s)) (shifted a b)
  where
    shifted : (a b : ℕ) → nat_cmp a b ≡ nat_cmp (suc (suc a)) (suc (suc b))
    shifted a b = grind (arith, nat_tests)

-- numbers are compared by their quotients, and then by their rests
parts : (k a b p q r s : ℕ) → a ≡ p * k + r → b ≡ q * k + s → (p < q → a < b) → (q < p → b < a) → (p ≡ q → r < s → a < b) → (p ≡ q → s < r → b < a) → nat_cmp a b ≡ ordering_then (nat_cmp p q) (nat_cmp r s)
parts k a b p q r s e f less more below above =
    by_ranked (p < q) (p ≡ q) (q < p) (nat_cmp p q) (ranked p q (nat_cmp p q) refl)
    (λ o h. less_is a b (less h) ∙ sym (ap (λ x. ordering_then x (nat_cmp r s)) o))
    (λ o h. by_ranked (r < s) (r ≡ s) (s < r) (nat_cmp r s) (ranked r s (nat_cmp r s) refl)
    (λ u l. less_is a b (below h l) ∙ sym (ap (λ x. ordering_then x (nat_cmp r s)) o ∙ u))
    (λ u l. ap (λ x. nat_cmp x b) (e ∙ ap (λ x. x * k + r) h ∙ ap (λ x. q * k + x) l ∙ sym f) ∙ sym (nat_cmp_is b b Equal refl) ∙ sym (ap (λ x. ordering_then x (nat_cmp r s)) o ∙ u))
    (λ u l. more_is a b (above h l) ∙ sym (ap (λ x. ordering_then x (nat_cmp r s)) o ∙ u)))
    (λ o h. more_is a b (more h) ∙ sym (ap (λ x. ordering_then x (nat_cmp r s)) o))

by_units : (a b : ℕ) → nat_cmp a b ≡ ordering_then (nat_cmp (a / 2 ^ 52) (b / 2 ^ 52)) (nat_cmp (a % 2 ^ 52) (b % 2 ^ 52))
by_units a b =
    parts (2 ^ 52) a b (a / 2 ^ 52) (b / 2 ^ 52) (a % 2 ^ 52) (b % 2 ^ 52)
    (omega arith) (omega arith) (λ h. omega arith) (λ h. omega arith) (λ e h. omega arith) (λ e h. omega arith)

by_codes : (a b : ℕ) → nat_cmp a b ≡ ordering_then (nat_cmp (a / 64) (b / 64)) (nat_cmp (a % 64) (b % 64))
by_codes a b =
    parts 64 a b (a / 64) (b / 64) (a % 64) (b % 64)
    (omega arith) (omega arith) (λ h. omega arith) (λ h. omega arith) (λ e h. omega arith) (λ e h. omega arith)

pub then_assoc : (a b c : Ordering) → ordering_then a (ordering_then b c) ≡ ordering_then (ordering_then a b) c
then_assoc Less b c = refl
then_assoc Equal b c = refl
then_assoc Greater b c = refl

-- The order of numbers is the order of their moves.
pub order_is : (a b : ℕ) → nat_cmp a b ≡ move_cmp (unpacked a) (unpacked b)
order_is a b =
    let u : ℕ = 2 ^ 52 in
    by_units a b
    ∙ ap (λ o. ordering_then o (nat_cmp (a % u) (b % u))) (by_codes (a / u) (b / u))
    ∙ sym (then_assoc (nat_cmp (a / u / 64) (b / u / 64)) (nat_cmp (a / u % 64) (b / u % 64)) (nat_cmp (a % u) (b % u)))
    ∙ ap (ordering_then (nat_cmp (a / u / 64) (b / u / 64))) (sym (kinds_cmp (a / u % 64) (b / u % 64) (a % u) (b % u)))

-- ---- a number that is put together
pub packed_is : (rank code rest n : ℕ) → code < 64 → rest < 2 ^ 52 → n ≡ (rank * 64 + code) * 2 ^ 52 + rest →
    unpacked n ≡ record { rank = rank; kind = kind_of_code code rest }
packed_is rank code rest n h l e =
    let q : n / 2 ^ 52 / 64 ≡ rank = omega arith in
    let c : n / 2 ^ 52 % 64 ≡ code = omega arith in
    let r : n % 2 ^ 52 ≡ rest = omega arith in
    ap (λ (k : ℕ). record { rank = k; kind = kind_of_code (n / 2 ^ 52 % 64) (n % 2 ^ 52) }) q
    ∙ ap (λ (k : ℕ). record { rank = rank; kind = kind_of_code k (n % 2 ^ 52) }) c
    ∙ ap (λ (k : ℕ). record { rank = rank; kind = kind_of_code code k }) r

pub code_cut : (a set : ℕ) → kind_of_code (a + 2) set ≡ cut a set
code_cut a set = ap (λ c. kind_of_code c set) (plus a)
  where
    plus : (a : ℕ) → a + 2 ≡ suc (suc a)
    plus a = omega arith

pub cut_code : (c set : ℕ) → 1 < c → kind_of_code c set ≡ cut (c - 2) set
cut_code zero set h = absurd (omega arith)
cut_code (suc zero) set h = absurd (omega arith)
cut_code (suc (suc a)) set h = ap (λ b. cut b set) (minus a)
  where
    minus : (a : ℕ) → a ≡ suc (suc a) - 2
    minus a = omega arith

pub is_cut_code : (n c set : ℕ) → 1 < c → IsKind n (kind_of_code c set) → IsCut n (c - 2) set
is_cut_code n c set h k = subst (IsKind n) (cut_code c set h) k

pub rank_least : (n : ℕ) (k : Kind) → IsKind n k → 0 < n
rank_least n (swap k) h = omega (arith, h)
rank_least n (invert k) h = omega (arith, h)
rank_least n (cut a set) h = omega (arith, h.of_rank)

-- ---- sets
pub mask_fits : (n a set : ℕ) → IsCut n a set → n ≤ most_rank → set < 2 ^ 52
mask_fits n a set h l =
    let two : 0 < 2 = omega arith in
    let most : 2 * n ≤ 52 = omega arith in
    let whole : 2 ^ (2 * n) ≤ 2 ^ 52 = pow-le-pow_right {n = 2} two {i = 2 * n} {j = 52} most in
    omega (arith, h.within, whole)

inverse_cut : (m : Move) (a set : ℕ) → IsMove m → cut a set ≡ m.kind → IsCut m.rank (inverse_letter a) (turned_set a set)
inverse_cut m a set h e = inverse_is_kind m.rank (cut a set) (subst (IsKind m.rank) (sym e) h.kind)

pub turned_fits : (m : Move) (a set s : ℕ) → IsMove m → cut a set ≡ m.kind → s ≡ turned_set a set → s < 2 ^ 52
turned_fits m a set s h e t = omega (arith, t, mask_fits m.rank (inverse_letter a) (turned_set a set) (inverse_cut m a set h e) h.rank)

pub turned_is_move : (m : Move) (n rank a set i s code : ℕ) → IsMove m → cut a set ≡ m.kind → rank ≡ m.rank → i ≡ inverse_letter a → s ≡ turned_set a set → code ≡ i + 2 →
    unpacked n ≡ record { rank = rank; kind = kind_of_code code s } → IsMove (unpacked n)
turned_is_move m n rank a set i s code h e r j t c u =
    let whole : unpacked n ≡ inverse_move m =
    u ∙ ap (λ (k : ℕ). record { rank = k; kind = kind_of_code code s }) r
    ∙ ap (λ (k : ℕ). record { rank = m.rank; kind = kind_of_code k s }) c
    ∙ ap (λ (k : Kind). record { rank = m.rank; kind = k }) (code_cut i s)
    ∙ ap (λ (b : ℕ). record { rank = m.rank; kind = cut b s }) j
    ∙ ap (λ (b : ℕ). record { rank = m.rank; kind = cut (inverse_letter a) b }) t
    ∙ ap (λ (k : Kind). record { rank = m.rank; kind = inverse_kind k }) e in
    subst IsMove (sym whole) (inverse_is_move m h)
