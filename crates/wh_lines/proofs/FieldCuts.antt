-- The first field of a line, cut off: for the loop that finds the fields.
use Rattle.std.proofs.Common.{◌≡◌, ℕ, suc, ◌+◌, ◌<◌, ◌≤◌, ◌==◌, Bool, true, false, cond, List, [], ◌∷◌, ◌++◌, length, take, drop, sym, ap, ◌∙◌, refl, arith, append-nil, append_assoc, inl, inr}
use Rattle.std.specs.List.{sum_by}
use Rattle.std.proofs.lemmas.List.{drop_all, drop-drop}
use Rattle.std.proofs.lemmas.List.Sums.{sum_by-cons}
use Rattle.std.proofs.lemmas.Bool.{cases_Bool, cond-true, cond-false, cond_both}
use Rattle.wh_lines.specs.Lines.{Field, joined, fields}
use Rattle.wh_lines.specs.Scans.{before, bytes_within}
use Rattle.wh_lines.proofs.Scanning.{eq_true, eq_false}
use Rattle.wh_lines.proofs.LineCuts.{add_suc}

-- no field begins before its line
abbrev pub StartsFrom : ℕ → List Field → Type 0
StartsFrom c [] = Unit {0}
StartsFrom c (f ∷ fs) = c ≤ f.column

starts_later : (c : ℕ) (fs : List Field) → StartsFrom (c + 1) fs → StartsFrom c fs
starts_later c [] h = tt
starts_later c (f ∷ fs) h = omega (arith, h)

starts_joined : (c b : ℕ) (fs : List Field) → StartsFrom c (joined c b fs)
starts_joined c b [] = omega arith
starts_joined c b (f ∷ fs) = cond_both (f.column == c + 1) (record { column = c; bytes = b ∷ f.bytes } ∷ fs) (record { column = c; bytes = b ∷ [] } ∷ f ∷ fs) (StartsFrom c) (λ _. omega arith) (λ _. omega arith)

starts : (c : ℕ) (bs : List ℕ) → StartsFrom c (fields c bs)
starts c [] = tt
starts c (b ∷ bs) = cond_both (b == 32) (fields (c + 1) bs) (joined c b (fields (c + 1) bs)) (StartsFrom c) (λ _. starts_later c (fields (c + 1) bs) (starts (c + 1) bs)) (λ _. starts_joined c b (fields (c + 1) bs))

joined_apart : (c b : ℕ) (fs : List Field) → StartsFrom (c + 1 + 1) fs → joined c b fs ≡ record { column = c; bytes = b ∷ [] } ∷ fs
joined_apart c b [] h = refl
joined_apart c b (f ∷ fs) h = cond-false (f.column == c + 1) _ _ (eq_false f.column (c + 1) (λ e. omega (arith, e, h)))

field_by : (t : Bool) (c b : ℕ) (bs : List ℕ) → t ≡ false →
    joined c b (fields (c + 1) bs) ≡ record { column = c; bytes = b ∷ take (before 32 bs) bs } ∷ fields (c + suc (before 32 bs) + 1) (drop (before 32 bs + 1) bs) →
    cond t (fields (c + 1) bs) (joined c b (fields (c + 1) bs)) ≡
    record { column = c; bytes = take (cond t 0 (suc (before 32 bs))) (b ∷ bs) } ∷ fields (c + cond t 0 (suc (before 32 bs)) + 1) (drop (cond t 0 (suc (before 32 bs)) + 1) (b ∷ bs))
field_by true c b bs e h = absurd (cc)
field_by false c b bs e h = h ∙ ap (λ k. record { column = c; bytes = b ∷ take (before 32 bs) bs } ∷ fields (c + suc (before 32 bs) + 1) (drop k (b ∷ bs))) (add_suc (before 32 bs))

-- what follows the byte b of a field, where a space does and where none does
space_next : (t : Bool) (c b d : ℕ) (ds : List ℕ) → t ≡ true →
    joined c b (cond t (fields (c + 1 + 1) ds) (joined (c + 1) d (fields (c + 1 + 1) ds))) ≡
    record { column = c; bytes = b ∷ take (cond t 0 (suc (before 32 ds))) (d ∷ ds) } ∷ fields (c + suc (cond t 0 (suc (before 32 ds))) + 1) (drop (cond t 0 (suc (before 32 ds)) + 1) (d ∷ ds))
space_next true c b d ds e = joined_apart c b (fields (c + 1 + 1) ds) (starts (c + 1 + 1) ds) ∙ ap (λ k. record { column = c; bytes = b ∷ [] } ∷ fields k ds) (omega arith)
space_next false c b d ds e = absurd (cc)

joined_next : (c b n : ℕ) (w : List ℕ) (fs : List Field) → joined c b (record { column = c + 1; bytes = w } ∷ fs) ≡ record { column = c; bytes = b ∷ w } ∷ fs
joined_next c b n w fs = cond-true (c + 1 == c + 1) _ _ (eq_true (c + 1) (c + 1) refl)

pub field_front : (c b : ℕ) (bs : List ℕ) → (b == 32) ≡ false →
    fields c (b ∷ bs) ≡ record { column = c; bytes = take (before 32 (b ∷ bs)) (b ∷ bs) } ∷ fields (c + before 32 (b ∷ bs) + 1) (drop (before 32 (b ∷ bs) + 1) (b ∷ bs))
field_front c b [] e = field_by (b == 32) c b [] e refl
field_front c b (d ∷ ds) e =
    let n = before 32 (d ∷ ds) in
    field_by (b == 32) c b (d ∷ ds) e
    (elim (cases_Bool (d == 32)) [
      | inl t ↦ space_next (d == 32) c b d ds t
      | inr f ↦ ap (joined c b) (field_front (c + 1) d ds f) ∙ joined_next c b n (take n (d ∷ ds)) (fields (c + 1 + n + 1) (drop (n + 1) (d ∷ ds)))
          ∙ ap (λ k. record { column = c; bytes = b ∷ take n (d ∷ ds) } ∷ fields k (drop (n + 1) (d ∷ ds))) (omega arith)
    ])

before_zero : (t : Bool) (n : ℕ) → cond t 0 (suc n) ≡ 0 → t ≡ true
before_zero true n e = refl
before_zero false n e = absurd (omega (arith, e))

before_some : (t : Bool) (n : ℕ) → 0 < cond t 0 (suc n) → t ≡ false
before_some true n e = absurd (omega (arith, e))
before_some false n e = refl

pub fields_skip : (c : ℕ) (bs : List ℕ) (found : List Field) → before 32 bs ≡ 0 → found ++ fields (c + 1) (drop 1 bs) ≡ found ++ fields c bs
fields_skip c [] found e = refl
fields_skip c (b ∷ bs) found e = ap (λ fs. found ++ fs) (sym (cond-true (b == 32) _ _ (before_zero (b == 32) (before 32 bs) e)))

pub fields_take : (c : ℕ) (bs : List ℕ) (found : List Field) → 0 < before 32 bs →
    (found ++ record { column = c; bytes = take (before 32 bs) bs } ∷ []) ++ fields (c + before 32 bs + 1) (drop (before 32 bs + 1) bs) ≡ found ++ fields c bs
fields_take c [] found e = absurd (omega (arith, e))
fields_take c (b ∷ bs) found e =
    append_assoc found (record { column = c; bytes = take (before 32 (b ∷ bs)) (b ∷ bs) } ∷ []) (fields (c + before 32 (b ∷ bs) + 1) (drop (before 32 (b ∷ bs) + 1) (b ∷ bs)))
    ∙ ap (λ fs. found ++ fs) (sym (field_front c b bs (before_some (b == 32) (before 32 bs) e)))

-- the loop goes on after a field or a space
pub fields_on : (line : List ℕ) (at n : ℕ) (old new : List Field) →
    new ++ fields (at + 1 + n + 1) (drop (n + 1) (drop at line)) ≡ old ++ fields (at + 1) (drop at line) →
    old ++ fields (at + 1) (drop at line) ≡ fields 1 line → new ++ fields (at + (n + 1) + 1) (drop (at + (n + 1)) line) ≡ fields 1 line
fields_on line at n old new e h =
    ap (λ k. new ++ fields k (drop (at + (n + 1)) line)) (omega arith) ∙ sym (ap (λ r. new ++ fields (at + 1 + n + 1) r) (drop-drop (n + 1) at line)) ∙ e ∙ h

pub fields_end : (line : List ℕ) (at : ℕ) (found : List Field) → length line ≤ at → found ++ fields (at + 1) (drop at line) ≡ fields 1 line → found ≡ fields 1 line
fields_end line at found l h = sym (append-nil found) ∙ sym (ap (λ r. found ++ fields (at + 1) r) (drop_all at line l)) ∙ h

-- ---- the letters of all fields are no more than the bytes of the line
total_cons : (f : Field) (fs : List Field) → sum_by bytes_within (f ∷ fs) ≡ length f.bytes + sum_by bytes_within fs
total_cons f fs = sum_by-cons bytes_within f fs

joined_total : (c b : ℕ) (fs : List Field) → sum_by bytes_within (joined c b fs) ≤ suc (sum_by bytes_within fs)
joined_total c b [] = omega (arith, total_cons (record { column = c; bytes = b ∷ [] }) [])
joined_total c b (f ∷ fs) =
    cond_both (f.column == c + 1) (record { column = c; bytes = b ∷ f.bytes } ∷ fs) (record { column = c; bytes = b ∷ [] } ∷ f ∷ fs)
    (λ gs. sum_by bytes_within gs ≤ suc (sum_by bytes_within (f ∷ fs)))
    (λ _. omega (arith, total_cons f fs, total_cons (record { column = c; bytes = b ∷ f.bytes }) fs))
    (λ _. omega (arith, total_cons (record { column = c; bytes = b ∷ [] }) (f ∷ fs)))

pub fields_total : (c : ℕ) (bs : List ℕ) → sum_by bytes_within (fields c bs) ≤ length bs
fields_total c [] = omega arith
fields_total c (b ∷ bs) =
    cond_both (b == 32) (fields (c + 1) bs) (joined c b (fields (c + 1) bs)) (λ fs. sum_by bytes_within fs ≤ suc (length bs))
    (λ _. omega (arith, fields_total (c + 1) bs))
    (λ _. omega (arith, joined_total c b (fields (c + 1) bs), fields_total (c + 1) bs))
