-- The first line of a text, cut off: for the loop over all lines.
use Rattle.std.proofs.Common.{◌≡◌, ℕ, suc, ◌+◌, ◌<◌, ◌==◌, Bool, true, false, cond, List, [], ◌∷◌, length, take, drop, ap, ◌∙◌, refl, arith}
use Rattle.wh_lines.specs.Lines.{onto, lines}
use Rattle.wh_lines.specs.Scans.{before}

pub add_suc : (n : ℕ) → suc (n + 1) ≡ suc n + 1
add_suc n = omega arith

line_by : (t : Bool) (b : ℕ) (bs : List ℕ) → onto b (lines bs) ≡ (b ∷ take (before 10 bs) bs) ∷ lines (drop (before 10 bs + 1) bs) →
    cond t ([] ∷ lines bs) (onto b (lines bs)) ≡ take (cond t 0 (suc (before 10 bs))) (b ∷ bs) ∷ lines (drop (cond t 0 (suc (before 10 bs)) + 1) (b ∷ bs))
line_by true b bs h = refl
line_by false b bs h = h ∙ ap (λ k. (b ∷ take (before 10 bs) bs) ∷ lines (drop k (b ∷ bs))) (add_suc (before 10 bs))

pub line_front : (b : ℕ) (bs : List ℕ) → lines (b ∷ bs) ≡ take (before 10 (b ∷ bs)) (b ∷ bs) ∷ lines (drop (before 10 (b ∷ bs) + 1) (b ∷ bs))
line_front b [] = line_by (b == 10) b [] refl
line_front b (d ∷ ds) = line_by (b == 10) b (d ∷ ds) (ap (onto b) (line_front d ds))

pub lines_front : (bs : List ℕ) → 0 < length bs → lines bs ≡ take (before 10 bs) bs ∷ lines (drop (before 10 bs + 1) bs)
lines_front [] h = absurd (omega (arith, h))
lines_front (b ∷ bs) h = line_front b bs
