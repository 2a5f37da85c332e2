-- The first byte of a kind: for the loops over the bytes of a line.
use Rattle.std.proofs.Common.{◌≡◌, ◌≢◌, ℕ, suc, ◌+◌, ◌<◌, ◌≤◌, ◌==◌, true, false, cond, List, [], ◌∷◌, length, get_or, drop, sym, ap, ◌∙◌, arith, None, Some}
use Rattle.std.proofs.lemmas.List.{drop_more, drop_all}
use Rattle.std.proofs.lemmas.Bool.{cond-true, cond-false, cond_both}
use Rattle.std.proofs.lemmas.Bool.Decides.{nat_tests}
use Rattle.wh_lines.specs.Lines.{is_allowed, bad_at}
use Rattle.wh_lines.specs.Scans.{before}

-- ---- the first byte x
pub before_step : (x : ℕ) (bs : List ℕ) (i : ℕ) (b : ℕ) → i < length bs → b ≡ get_or bs i b → before x (drop i bs) ≡ cond (b == x) 0 (suc (before x (drop (i + 1) bs)))
before_step x bs i b l is = ap (before x) (drop_more bs i b l) ∙ ap (λ d. cond (d == x) 0 (suc (before x (drop (i + 1) bs)))) (sym is)

pub eq_true : (b x : ℕ) → b ≡ x → (b == x) ≡ true
eq_true b x e = grind (arith, nat_tests)

pub eq_false : (b x : ℕ) → b ≢ x → (b == x) ≡ false
eq_false b x e = grind (arith, nat_tests)

pub before_more : (x : ℕ) (bs : List ℕ) (i : ℕ) (b : ℕ) (n : ℕ) → i < length bs → b ≡ get_or bs i b → b ≢ x → n + before x (drop i bs) ≡ before x bs → (n + 1) + before x (drop (i + 1) bs) ≡ before x bs
before_more x bs i b n l is other h =
    let e = before_step x bs i b l is ∙ cond-false (b == x) 0 (suc (before x (drop (i + 1) bs))) (eq_false b x other) in
    omega (arith, e, h)

pub before_found : (x : ℕ) (bs : List ℕ) (i : ℕ) (b : ℕ) (n : ℕ) → i < length bs → b ≡ get_or bs i b → b ≡ x → n + before x (drop i bs) ≡ before x bs → n ≡ before x bs
before_found x bs i b n l is same h =
    let e = before_step x bs i b l is ∙ cond-true (b == x) 0 (suc (before x (drop (i + 1) bs))) (eq_true b x same) in
    omega (arith, e, h)

pub before_end : (x : ℕ) (bs : List ℕ) (i n : ℕ) → length bs ≤ i → n + before x (drop i bs) ≡ before x bs → n ≡ before x bs
before_end x bs i n l h = omega (arith, ap (before x) (drop_all i bs l), h)

pub before_within : (x : ℕ) (bs : List ℕ) → before x bs ≤ length bs
before_within x [] = omega arith
before_within x (b ∷ bs) = cond_both (b == x) 0 (suc (before x bs)) (λ n. n ≤ suc (length bs)) (λ _. omega arith) (λ _. omega (arith, before_within x bs))

-- ---- bad bytes
pub bad_step : (bs : List ℕ) (i : ℕ) (b c : ℕ) → i < length bs → b ≡ get_or bs i b → bad_at c (drop i bs) ≡ cond (is_allowed b) (bad_at (c + 1) (drop (i + 1) bs)) (Some c)
bad_step bs i b c l is = ap (bad_at c) (drop_more bs i b l) ∙ ap (λ d. cond (is_allowed d) (bad_at (c + 1) (drop (i + 1) bs)) (Some c)) (sym is)

is_good : (b : ℕ) → 32 ≤ b → b ≤ 126 → (is_allowed b) ≡ true
is_good b low high = grind (arith, nat_tests)

is_low : (b : ℕ) → b < 32 → (is_allowed b) ≡ false
is_low b low = grind (arith, nat_tests)

is_high : (b : ℕ) → 126 < b → (is_allowed b) ≡ false
is_high b low = grind (arith, nat_tests)

pub bad_more : (bs : List ℕ) (i : ℕ) (b c : ℕ) → i < length bs → b ≡ get_or bs i b → 32 ≤ b → b ≤ 126 → bad_at c (drop i bs) ≡ bad_at 1 bs → bad_at (c + 1) (drop (i + 1) bs) ≡ bad_at 1 bs
bad_more bs i b c l is low high h = sym (cond-true (is_allowed b) (bad_at (c + 1) (drop (i + 1) bs)) (Some c) (is_good b low high)) ∙ sym (bad_step bs i b c l is) ∙ h

pub bad_low : (bs : List ℕ) (i : ℕ) (b c : ℕ) → i < length bs → b ≡ get_or bs i b → b < 32 → bad_at c (drop i bs) ≡ bad_at 1 bs → Some c ≡ bad_at 1 bs
bad_low bs i b c l is bad h = sym (cond-false (is_allowed b) (bad_at (c + 1) (drop (i + 1) bs)) (Some c) (is_low b bad)) ∙ sym (bad_step bs i b c l is) ∙ h

pub bad_high : (bs : List ℕ) (i : ℕ) (b c : ℕ) → i < length bs → b ≡ get_or bs i b → 126 < b → bad_at c (drop i bs) ≡ bad_at 1 bs → Some c ≡ bad_at 1 bs
bad_high bs i b c l is bad h = sym (cond-false (is_allowed b) (bad_at (c + 1) (drop (i + 1) bs)) (Some c) (is_high b bad)) ∙ sym (bad_step bs i b c l is) ∙ h

pub bad_end : (bs : List ℕ) (i c : ℕ) → length bs ≤ i → bad_at c (drop i bs) ≡ bad_at 1 bs → None ≡ bad_at 1 bs
bad_end bs i c l h = sym (ap (bad_at c) (drop_all i bs l)) ∙ h
