-- How many lines a reading takes: for the law on the numbers of a certificate.
use Rattle.std.proofs.Common.{◌≡◌, ℕ, zero, suc, ◌+◌, List, [], ◌∷◌, length, ap, refl, arith, Result, Ok, length-append}
use Rattle.std.specs.List.{All}
use Rattle.std.proofs.lemmas.List.Elements.{All-nil, All-cons}
use Rattle.wh_lines.specs.declared.read_error.ReadError.{ReadError}
use Rattle.wh_lines.specs.Readings.{◌>>=◌}
use Rattle.wh_lines.specs.KeptLines.{Kept}
use Rattle.wh_lines.specs.LineReadings.{Reading, line_after, end_after, times}
use Rattle.wh_lines.proofs.Equations.{bind_ok, ok_same}
use Rattle.wh_lines.proofs.NextLines.{line_told, end_told}

-- the next line is one line
pub line_taken : (keyword : List ℕ) (p : Reading) (k : Kept × Reading) → line_after keyword p ≡ Ok k → length k.1.taken ≡ 1 + length p.taken
line_taken keyword p k e = let told = line_told keyword p k e in omega (arith, ap length told.1, length-append p.taken (k.0.number ∷ []))

-- the end is no line
pub end_taken : (p : Reading) (q : Unit {0} × Reading) → end_after p ≡ Ok q → length q.1.taken ≡ length p.taken
end_taken p q e = let told = end_told p q e in ap (λ (x : Reading). length x.taken) told.2

-- ---- readings
-- What was read is as told, from so many lines.
pub record Took {A : Type 0} (IsTold : A → Type 0) (k : ℕ) (p : Reading) (r : A × Reading) : Type 0 where
  pub told : IsTold r.0
  pub lines : length r.1.taken ≡ k + length p.taken

-- what is read from the next line alone
pub one_line : {A : Type 0} (IsTold : A → Type 0) (keyword : List ℕ) (next : Kept × Reading → Result (A × Reading) ReadError) (p : Reading) (r : A × Reading) →
    ((k : Kept × Reading) → next k ≡ Ok r → (x : A) × IsTold x × (◌≡◌ {A = Result (A × Reading) ReadError} (Ok (x, k.1)) (Ok r))) → (line_after keyword p >>= next) ≡ Ok r → Took IsTold 1 p r
one_line IsTold keyword next p r told e =
    let a = bind_ok (line_after keyword p) next r e in
    let b = told a.0 a.2 in
    ok_same (Took IsTold 1 p) (b.0, a.0.1) r b.2 (record { told = b.1; lines = line_taken keyword p a.0 a.1 })

-- so many readings of a line
pub times_took : {A : Type 0} (IsTold : A → Type 0) (read : Reading → Result (A × Reading) ReadError) → ((p : Reading) (r : A × Reading) → read p ≡ Ok r → Took IsTold 1 p r) →
    (k : ℕ) (p : Reading) (r : List A × Reading) → times read k p ≡ Ok r → Took (λ xs. (length xs ≡ k) × All IsTold xs) k p r
unfolding times
times_took IsTold read one zero p r e =
    ok_same (Took (λ xs. (length xs ≡ zero) × All IsTold xs) zero p) ([], p) r e (record { told = (refl, All-nil IsTold); lines = omega arith })
times_took IsTold read one (suc k) p r e =
    let a = bind_ok (read p) (λ x. times read k x.1 >>= λ xs. Ok (x.0 ∷ xs.0, xs.1)) r e in
    let b = bind_ok (times read k a.0.1) (λ xs. Ok (a.0.0 ∷ xs.0, xs.1)) r a.2 in
    let first = one p a.0 a.1 in
    let later = times_took IsTold read one k a.0.1 b.0 b.1 in
    ok_same (Took (λ xs. (length xs ≡ suc k) × All IsTold xs) (suc k) p) (a.0.0 ∷ b.0.0, b.0.1) r b.2 (record {
      told = (omega (arith, later.told.0), All-cons IsTold a.0.0 b.0.0 first.told later.told.1);
      lines = omega (arith, first.lines, later.lines);
    })
