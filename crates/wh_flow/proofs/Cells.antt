-- One number in a table.
use Rattle.std.proofs.Common.{◌≡◌, ◌≢◌, ℕ, ◌<◌, inl, inr, ◌⊎◌, arith, List}
use Rattle.std.proofs.lemmas.List.{get_or-set_same, get_or-set_other, get_or-replicate, length-replicate}
use Rattle.wh_words.specs.Flows.{place}
use Rattle.wh_flow.specs.Tables.{pair_count, cell, IsTable, zero_table, with_cell}

pub place-same : (p q x y : ℕ) → q < 52 → y < 52 → place p q ≡ place x y → (p ≡ x) × (q ≡ y)
place-same p q x y h i e = (omega (arith, e), omega (arith, e))

pub place-apart : (p q x y : ℕ) → q < 52 → y < 52 → (x ≢ p) ⊎ (y ≢ q) → place x y ≢ place p q
place-apart p q x y h i (inl e) = λ k. e (place-same x y p q i h k).0
place-apart p q x y h i (inr e) = λ k. e (place-same x y p q i h k).1

pub cell-same : (l : List ℕ) (p q m : ℕ) → IsTable l → p < 52 → q < 52 → cell (with_cell l p q m) p q ≡ m
cell-same l p q m e h i = get_or-set_same l (place p q) m 0 (omega (arith, e, h, i))

pub cell-other : (l : List ℕ) (p q m x y : ℕ) → place x y ≢ place p q → cell (with_cell l p q m) x y ≡ cell l x y
cell-other l p q m x y e = get_or-set_other l (place p q) (place x y) m 0 e

pub cell-zero : (x y : ℕ) → x < 52 → y < 52 → cell zero_table x y ≡ 0
cell-zero x y h i = get_or-replicate pair_count (place x y) 0 0 (omega (arith, h, i))

pub zero-table : IsTable zero_table
zero-table = length-replicate {A = ℕ} pair_count 0
