-- So many readings, one after another: for the loops over `flow` lines and `at` lines.
use Rattle.std.proofs.Common.{◌≡◌, ℕ, suc, ◌+◌, ◌-◌, ◌<◌, ◌≤◌, List, [], ◌∷◌, ◌++◌, sym, ap, ◌∙◌, refl, arith, append-nil, append_assoc, Result, Ok, Err}
use Rattle.wh_lines.specs.declared.read_error.ReadError.{ReadError}
use Rattle.wh_lines.specs.Readings.{◌>>=◌, Refuses}
use Rattle.wh_lines.specs.LineReadings.{Reading, times}

-- what was read so far, before what reading the rest gives
abbrev pub times_front : {A : Type 0} → List A → Result (List A × Reading) ReadError → Result (List A × Reading) ReadError
times_front front read = read >>= λ xs. Ok (front ++ xs.0, xs.1)

front_more : {A : Type 0} (front : List A) (x : A) (r : Result (List A × Reading) ReadError) → times_front (front ++ x ∷ []) r ≡ times_front front (r >>= λ xs. Ok (x ∷ xs.0, xs.1))
front_more front x (Ok xs) = ap (λ v. Ok (v, xs.1)) (append_assoc front (x ∷ []) xs.0)
front_more front x (Err e) = refl

times_step : {A : Type 0} (read : Reading → Result (A × Reading) ReadError) (n i : ℕ) (p : Reading) → i < n →
    times read (n - i) p ≡ (read p >>= λ x. times read (n - (i + 1)) x.1 >>= λ xs. Ok (x.0 ∷ xs.0, xs.1))
unfolding times
times_step read n i p h = let k : n - i ≡ suc (n - (i + 1)) = omega (arith, h) in ap (λ m. times read m p) k

pub times_more : {A : Type 0} (read : Reading → Result (A × Reading) ReadError) (out : List A) (n i : ℕ) (p : Reading) (x : A) (q : Reading) (total : Result (List A × Reading) ReadError) → i < n → read p ≡ Ok (x, q) →
    times_front out (times read (n - i) p) ≡ total → times_front (out ++ x ∷ []) (times read (n - (i + 1)) q) ≡ total
times_more read out n i p x q total h e so_far =
    front_more out x (times read (n - (i + 1)) q)
    ∙ sym (ap (λ r. times_front out (r >>= λ x. times read (n - (i + 1)) x.1 >>= λ xs. Ok (x.0 ∷ xs.0, xs.1))) e)
    ∙ sym (ap (times_front out) (times_step read n i p h)) ∙ so_far

pub times_fail : {A : Type 0} (read : Reading → Result (A × Reading) ReadError) (out : List A) (n i : ℕ) (p : Reading) (error : ReadError) (total : Result (List A × Reading) ReadError) → i < n → Refuses (read p) error →
    times_front out (times read (n - i) p) ≡ total → Refuses total error
times_fail read out n i p error total h fails so_far = λ known.
    sym so_far ∙ ap (times_front out) (times_step read n i p h)
    ∙ ap (λ r. times_front out (r >>= λ x. times read (n - (i + 1)) x.1 >>= λ xs. Ok (x.0 ∷ xs.0, xs.1))) (fails known)

start_by : {A : Type 0} (r : Result (List A × Reading) ReadError) → times_front [] r ≡ r
start_by (Ok xs) = refl
start_by (Err e) = refl

pub times_start : {A : Type 0} (read : Reading → Result (A × Reading) ReadError) (out : List A) (n : ℕ) (p : Reading) → out ≡ [] → times_front out (times read (n - 0) p) ≡ times read n p
times_start read out n p e =
    let k : n - 0 ≡ n = omega arith in
    ap (λ xs. times_front xs (times read (n - 0) p)) e ∙ ap (λ m. times_front [] (times read m p)) k ∙ start_by (times read n p)

pub times_end : {A : Type 0} (read : Reading → Result (A × Reading) ReadError) (out : List A) (n i : ℕ) (p : Reading) (total : Result (List A × Reading) ReadError) → n ≤ i →
    times_front out (times read (n - i) p) ≡ total → total ≡ Ok (out, p)
unfolding times
times_end read out n i p total h so_far =
    let k : n - i ≡ 0 = omega (arith, h) in
    sym so_far ∙ ap (λ m. times_front out (times read m p)) k ∙ ap (λ v. Ok (v, p)) (append-nil out)
