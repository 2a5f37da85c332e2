-- What an equation between results, or between tests, tells of their parts: for the readers of items and all laws.
use Rattle.std.proofs.Common.{◌≡◌, ◌≢◌, ℕ, ◌==◌, ◌≤◌, ltb, Bool, true, false, cond, List, [], ◌∷◌, map, refl, ap, ◌∙◌, subst, arith, Option, Some, Result, Ok, Err, inl, inr, ◌⊎◌}
use Rattle.std.specs.Prelude.{◌&&◌}
use Rattle.std.proofs.lemmas.Bool.{eqb-true, false≢true}
use Rattle.std.proofs.lemmas.Bool.Decides.{nat_tests}
use Rattle.wh_lines.specs.declared.read_error.ReadError.{ReadError}
use Rattle.wh_lines.specs.Lines.{Field, are}
use Rattle.wh_lines.specs.declared.read_error.ReadError.TheVariants as errors
use Rattle.wh_lines.specs.Readings.{◌>>=◌, Refuses, refused_as}
use Rattle.wh_lines.proofs.Scanning.{eq_true}

pub bind_ok : {A B : Type 0} (r : Result A ReadError) (f : A → Result B ReadError) (y : B) → (r >>= f) ≡ Ok y → (x : A) × (r ≡ Ok x) × (f x ≡ Ok y)
bind_ok (Ok x) f y e = (x, refl, e)
bind_ok (Err d) f y e = absurd (cc)

pub bind_err : {A B : Type 0} (r : Result A ReadError) (f : A → Result B ReadError) (d : ReadError) → (r >>= f) ≡ Err d → (r ≡ Err d) ⊎ ((x : A) × (r ≡ Ok x) × (f x ≡ Err d))
bind_err (Ok x) f d e = inr (x, refl, e)
bind_err (Err g) f d e = inl (cc)

pub ok_is : {A : Type 0} (x y : A) → ◌≡◌ {A = Result A ReadError} (Ok x) (Ok y) → x ≡ y
ok_is x y e = cc

pub err_is : {A : Type 0} (d e : ReadError) → ◌≡◌ {A = Result A ReadError} (Err d) (Err e) → d ≡ e
err_is d e h = cc

pub some_is : {A : Type 0} (x y : A) → ◌≡◌ {A = Option A} (Some x) (Some y) → x ≡ y
some_is x y e = cc

-- what holds of one value holds of the other
pub ok_same : {A : Type 0} (P : A → Type 0) (x y : A) → ◌≡◌ {A = Result A ReadError} (Ok x) (Ok y) → P x → P y
ok_same P x y e h = subst P (ok_is x y e) h

pub unless_ok : {A : Type 0} (t : Bool) (e : ReadError) (r : Result A ReadError) (x : A) → cond t (Err e) r ≡ Ok x → (t ≡ false) × (r ≡ Ok x)
unless_ok true e r x h = absurd (cc)
unless_ok false e r x h = (refl, h)

pub if_ok : {A : Type 0} (t : Bool) (e : ReadError) (r : Result A ReadError) (x : A) → cond t r (Err e) ≡ Ok x → (t ≡ true) × (r ≡ Ok x)
if_ok true e r x h = (refl, h)
if_ok false e r x h = absurd (cc)

pub not_more : (a b : ℕ) → ltb a b ≡ false → b ≤ a
not_more a b e = grind (arith, nat_tests)

pub is_not_more : (a b : ℕ) → b ≤ a → ltb a b ≡ false
is_not_more a b h = grind (arith, nat_tests)

pub both_true : (s t : Bool) → (s && t) ≡ true → (s ≡ true) × (t ≡ true)
both_true true t e = (refl, e)
both_true false t e = absurd (cc)

pub are_is : (bs text : List ℕ) → are bs text ≡ true → bs ≡ text
are_is [] [] e = refl
are_is [] (d ∷ ds) e = absurd (false≢true e)
are_is (b ∷ bs) [] e = absurd (false≢true e)
are_is (b ∷ bs) (d ∷ ds) e =
    let p = both_true (b == d) (are bs ds) e in
    ap (λ x. x ∷ bs) (eqb-true b d p.0) ∙ ap (λ v. d ∷ v) (are_is bs ds p.1)

are_self : (text : List ℕ) → are text text ≡ true
are_self [] = refl
are_self (d ∷ ds) = ap (λ t. t && are ds ds) (eq_true d d refl) ∙ are_self ds

pub are_back : (bs text : List ℕ) → bs ≡ text → are bs text ≡ true
are_back bs text e = ap (λ v. are v text) e ∙ are_self text

pub not_nil : (b : ℕ) (bs : List ℕ) → (b ∷ bs) ≢ []
not_nil b bs e = absurd (cc)

-- the first of some fields, and the others
pub split_fields : (fs : List Field) (w : List ℕ) (ws : List (List ℕ)) → map (λ f. f.bytes) fs ≡ w ∷ ws → (keyword : Field) × (rest : List Field) × (fs ≡ keyword ∷ rest) × (keyword.bytes ≡ w) × (map (λ f. f.bytes) rest ≡ ws)
split_fields [] w ws e = absurd (cc)
split_fields (f ∷ fs) w ws e = (f, fs, refl, (cc), (cc))

pub no_fields : (fs : List Field) → map (λ f. f.bytes) fs ≡ [] → fs ≡ []
no_fields [] e = refl
no_fields (f ∷ fs) e = absurd (cc)

-- ---- refusals that are told in another way
pub refused_ok : {A : Type 0} (change : ReadError → ReadError) (r : Result A ReadError) (x : A) → refused_as change r ≡ Ok x → r ≡ Ok x
refused_ok change (Ok y) x e = e
refused_ok change (Err d) x e = absurd (cc)

pub refused_by : {A : Type 0} (change : ReadError → ReadError) (r : Result A ReadError) (e : ReadError) → change errors.OutOfMemory ≡ errors.OutOfMemory → Refuses r e → Refuses (refused_as change r) (change e)
refused_by change r e keeps h = λ known. ap (refused_as change) (h (λ memory. known (ap change memory ∙ keeps)))
