-- Readings that are refused at a line by the lines up to it: for the laws on where a text is refused.
use Rattle.std.proofs.Common.{◌≡◌, ℕ, suc, zero, ◌+◌, ◌<◌, Bool, true, false, cond, List, [], ◌∷◌, ◌++◌, length, refl, sym, ap, subst, arith, None, Some, Result, Ok, Err, inl, inr}
use Rattle.std.specs.declared.option.Option.{Option}
use Rattle.wh_lines.specs.declared.read_error.ReadError.{ReadError}
use Rattle.wh_lines.specs.declared.read_error.ReadError.TheVariants as errors
use Rattle.wh_lines.specs.Lines.{Field, bad_at, are}
use Rattle.wh_lines.specs.Readings.{◌>>=◌, items_at, or_bad_line}
use Rattle.wh_lines.proofs.Equations.{bind_err}
use Rattle.wh_lines.specs.KeptLines.{Kept, Rest, rest, line_fields, kept_or, unless_bad}
use Rattle.wh_lines.specs.KeptLines.Rest.{line, bad_byte, end}
use Rattle.wh_lines.specs.LineReadings.{Reading, line_after, line_of, end_after, end_of, times}

-- ---- what is left
-- Nothing that is left can be refused as line l: it comes after that line, or has a bad byte.
abbrev pub Beyond : ℕ → Rest → Type 0
Beyond l (line k later) = (l < k.number) × Beyond l later
Beyond l (bad_byte m c) = Unit {0}
Beyond l (end m) = l < m

-- What is left of two texts is the same up to line l.
pub data Agree (l : ℕ) : Rest → Rest → Type 0 where
  same : (k : Kept) {r s : Rest} → Agree l r s → Agree l (line k r) (line k s)
  ends : (m : ℕ) → Agree l (end m) (end m)
  beyond : {r s : Rest} → Beyond l r → Agree l r s

beyond_line : (l n : ℕ) (o : Option ℕ) (fs : List Field) (r : Rest) → l < n → Beyond l r → Beyond l (unless_bad n o (kept_or n fs r))
beyond_line l n None [] r h b = b
beyond_line l n None (f ∷ fs) r h b = (h, b)
beyond_line l n (Some c) fs r h b = tt

rest_beyond : (l n : ℕ) (ls : List (List ℕ)) → l < n → Beyond l (rest n ls)
unfolding rest
rest_beyond l n [] h = h
rest_beyond l n (bytes ∷ ls) h = beyond_line l n (bad_at 1 bytes) (line_fields bytes) (rest (n + 1) ls) h (rest_beyond l (n + 1) ls (omega (arith, h)))

agree_line : (l n : ℕ) (o : Option ℕ) (fs : List Field) (r s : Rest) → Agree l r s → Agree l (unless_bad n o (kept_or n fs r)) (unless_bad n o (kept_or n fs s))
agree_line l n None [] r s h = h
agree_line l n None (f ∷ fs) r s h = same (record { number = n; keyword = f.bytes; fields = fs }) h
agree_line l n (Some c) fs r s h = beyond tt

pub rest_agree : (l n : ℕ) (front after others : List (List ℕ)) → n + length front ≡ l + 1 → Agree l (rest n (front ++ after)) (rest n (front ++ others))
unfolding rest
rest_agree l n [] after others e = beyond (rest_beyond l n after (omega (arith, e)))
rest_agree l n (bytes ∷ front) after others e =
    agree_line l n (bad_at 1 bytes) (line_fields bytes) (rest (n + 1) (front ++ after)) (rest (n + 1) (front ++ others)) (rest_agree l (n + 1) front after others (omega (arith, e)))

-- ---- what is read
-- This isn't the refusal of line l, and it can't come.
abbrev pub Past : {A : Type 0} → ℕ → Result (A × Reading) ReadError → Type 0
Past l (Ok x) = Beyond l x.1.rest
Past l (Err e) = e ≡ errors.BadLine l → ⊥

-- Both are refused, or the same is read; or the first isn't refused at line l.
pub data Alike {A : Type 0} (l : ℕ) : Result (A × Reading) ReadError → Result (A × Reading) ReadError → Type 0 where
  went : (x y : A × Reading) → x.0 ≡ y.0 → Agree l x.1.rest y.1.rest → Alike l (Ok x) (Ok y)
  refused : (d e : ReadError) → Alike l (Err d) (Err e)
  past : (r s : Result (A × Reading) ReadError) → Past l r → Alike l r s

-- What is refused at line l is refused by the lines up to it.
pub record Local {A : Type 0} (l : ℕ) (read : Reading → Result (A × Reading) ReadError) : Type 0 where
  pub alike : (p q : Reading) → Agree l p.rest q.rest → Alike l (read p) (read q)
  pub far : (p : Reading) → Beyond l p.rest → Past l (read p)

pub local_none : {A : Type 0} (l : ℕ) (y : A) → Local l (λ p. Ok (y, p))
local_none l y = record { alike = λ p q h. went (y, p) (y, q) refl h; far = λ p h. h }

past_then : {A B : Type 0} (l : ℕ) (next : A × Reading → Result (B × Reading) ReadError) (r : Result (A × Reading) ReadError) → ((x : A) → Local l (λ p. next (x, p))) → Past l r → Past l (r >>= next)
past_then l next (Ok x) g h = (g x.0).far x.1 h
past_then l next (Err e) g h = h

alike_then : {A B : Type 0} (l : ℕ) (next : A × Reading → Result (B × Reading) ReadError) (r s : Result (A × Reading) ReadError) → ((x : A) → Local l (λ p. next (x, p))) → Alike l r s → Alike l (r >>= next) (s >>= next)
alike_then l next r s g (went x y e h) = subst (λ a. Alike l (next x) (next (a, y.1))) e ((g x.0).alike x.1 y.1 h)
alike_then l next r s g (refused d e) = refused d e
alike_then l next r s g (past _ _ h) = past (r >>= next) (s >>= next) (past_then l next r g h)

pub local_then : {A B : Type 0} (l : ℕ) (read : Reading → Result (A × Reading) ReadError) (next : A × Reading → Result (B × Reading) ReadError) → Local l read → ((x : A) → Local l (λ p. next (x, p))) → Local l (λ p. read p >>= next)
local_then l read next h g = record {
  alike = λ p q a. alike_then l next (read p) (read q) g (h.alike p q a);
  far = λ p b. past_then l next (read p) g (h.far p b);
}

-- The same is read in another way.
pub local_by : {A : Type 0} (l : ℕ) (read other : Reading → Result (A × Reading) ReadError) → ((p : Reading) → other p ≡ read p) → Local l read → Local l other
local_by l read other e h = record {
  alike = λ p q a. subst (λ r. Alike l (other p) r) (sym (e q)) (subst (λ r. Alike l r (read q)) (sym (e p)) (h.alike p q a));
  far = λ p b. subst (λ r. Past l r) (sym (e p)) (h.far p b);
}

-- ---- a line
-- What is told of a line is refused in that line.
abbrev pub InLine : {A : Type 0} → (Kept → Result A ReadError) → Type 0
InLine tell = (k : Kept) (l : ℕ) → tell k ≡ Err (errors.BadLine l) → k.number ≡ l

abbrev after_line : {A B : Type 0} → (Kept → Result A ReadError) → (A × Reading → Result (B × Reading) ReadError) → Kept × Reading → Result (B × Reading) ReadError
after_line tell next k = tell k.0 >>= λ x. next (x, k.1)

told_far : {A B : Type 0} (l : ℕ) (next : A × Reading → Result (B × Reading) ReadError) (k : Kept) (q : Reading) (r : Result A ReadError) → ((x : A) → Local l (λ p. next (x, p))) → (r ≡ Err (errors.BadLine l) → k.number ≡ l) → l < k.number → Beyond l q.rest → Past l (r >>= λ x. next (x, q))
told_far l next k q (Ok x) g is h b = (g x).far q b
told_far l next k q (Err e) g is h b = λ same. let at = is (ap (λ d. Err d) same) in absurd (omega (arith, at, h))

told_alike : {A B : Type 0} (l : ℕ) (next : A × Reading → Result (B × Reading) ReadError) (p q : Reading) (r : Result A ReadError) → ((x : A) → Local l (λ p. next (x, p))) → Agree l p.rest q.rest → Alike l (r >>= λ x. next (x, p)) (r >>= λ x. next (x, q))
told_alike l next p q (Ok x) g h = (g x).alike p q h
told_alike l next p q (Err e) g h = refused e e

line_far : {A B : Type 0} (l : ℕ) (keyword : List ℕ) (tell : Kept → Result A ReadError) (next : A × Reading → Result (B × Reading) ReadError) (taken : List ℕ) (r : Rest) → InLine tell → ((x : A) → Local l (λ p. next (x, p))) → Beyond l r → Past l (line_of keyword taken r >>= after_line tell next)
line_far l keyword tell next taken (line k later) is g h = by (are k.keyword keyword)
  where
    by : (t : Bool) → Past l (cond t (Ok (k, record { taken = taken ++ k.number ∷ []; rest = later })) (Err (errors.BadLine k.number)) >>= after_line tell next)
    by true = told_far l next k (record { taken = taken ++ k.number ∷ []; rest = later }) (tell k) g (is k l) h.0 h.1
    by false = λ same. let at : k.number ≡ l = (cc) in absurd (omega (arith, at, h.0))
line_far l keyword tell next taken (bad_byte m c) is g h = λ same. absurd (cc)
line_far l keyword tell next taken (end m) is g h = λ same. let at : m ≡ l = (cc) in absurd (omega (arith, at, h))

line_alike : {A B : Type 0} (l : ℕ) (keyword : List ℕ) (tell : Kept → Result A ReadError) (next : A × Reading → Result (B × Reading) ReadError) (ts us : List ℕ) (r s : Rest) → InLine tell → ((x : A) → Local l (λ p. next (x, p))) → Agree l r s →
    Alike l (line_of keyword ts r >>= after_line tell next) (line_of keyword us s >>= after_line tell next)
line_alike l keyword tell next ts us r s is g (same k {r = later} {s = more} h) = by (are k.keyword keyword)
  where
    by : (t : Bool) → Alike l (cond t (Ok (k, record { taken = ts ++ k.number ∷ []; rest = later })) (Err (errors.BadLine k.number)) >>= after_line tell next) (cond t (Ok (k, record { taken = us ++ k.number ∷ []; rest = more })) (Err (errors.BadLine k.number)) >>= after_line tell next)
    by true = told_alike l next (record { taken = ts ++ k.number ∷ []; rest = later }) (record { taken = us ++ k.number ∷ []; rest = more }) (tell k) g h
    by false = refused (errors.BadLine k.number) (errors.BadLine k.number)
line_alike l keyword tell next ts us r s is g (ends m) = refused (errors.BadLine m) (errors.BadLine m)
line_alike l keyword tell next ts us r s is g (beyond h) = past (line_of keyword ts r >>= after_line tell next) (line_of keyword us s >>= after_line tell next) (line_far l keyword tell next ts r is g h)

-- A line with a keyword that tells something, and what is read after it.
pub local_head : {A B : Type 0} (l : ℕ) (keyword : List ℕ) (tell : Kept → Result A ReadError) (next : A × Reading → Result (B × Reading) ReadError) → InLine tell → ((x : A) → Local l (λ p. next (x, p))) →
    Local l (λ p. line_after keyword p >>= λ k. tell k.0 >>= λ x. next (x, k.1))
unfolding line_after
local_head l keyword tell next is g = record {
  alike = λ p q a. line_alike l keyword tell next p.taken q.taken p.rest q.rest is g a;
  far = λ p b. line_far l keyword tell next p.taken p.rest is g b;
}

pub local_line : {A : Type 0} (l : ℕ) (keyword : List ℕ) (tell : Kept → Result A ReadError) → InLine tell → Local l (λ p. line_after keyword p >>= λ k. tell k.0 >>= λ x. Ok (x, k.1))
local_line l keyword tell is = local_head l keyword tell (λ a. Ok a) is (local_none l)

pub local_times : {A : Type 0} (l : ℕ) (read : Reading → Result (A × Reading) ReadError) (k : ℕ) → Local l read → Local l (times read k)
unfolding times
local_times l read zero h = local_none l []
local_times l read (suc k) h =
    local_then l read (λ x. times read k x.1 >>= λ xs. Ok (x.0 ∷ xs.0, xs.1)) h
    (λ x. local_then l (times read k) (λ xs. Ok (x ∷ xs.0, xs.1)) (local_times l read k h) (λ xs. local_none l (x ∷ xs)))

-- ---- the end
end_past : (l : ℕ) (ts : List ℕ) (r : Rest) → Beyond l r → Past l (end_of ts r)
end_past l ts (line k later) h = λ same. let at : k.number ≡ l = (cc) in absurd (omega (arith, at, h.0))
end_past l ts (bad_byte m c) h = λ same. absurd (cc)
end_past l ts (end m) h = h

end_alike : (l : ℕ) (ts us : List ℕ) (r s : Rest) → Agree l r s → Alike l (end_of ts r) (end_of us s)
end_alike l ts us r s (same k h) = refused (errors.BadLine k.number) (errors.BadLine k.number)
end_alike l ts us r s (ends m) = went (tt, record { taken = ts; rest = end m }) (tt, record { taken = us; rest = end m }) refl (ends m)
end_alike l ts us r s (beyond h) = past (end_of ts r) (end_of us s) (end_past l ts r h)

pub local_end : (l : ℕ) → Local l end_after
unfolding end_after
local_end l = record { alike = λ p q a. end_alike l p.taken q.taken p.rest q.rest a; far = λ p b. end_past l p.taken p.rest b }

-- ---- what a line tells
pub items_err : {A : Type 0} (P : ReadError → Type 0) (item : Field → Result A ReadError) → ((f : Field) (d : ReadError) → item f ≡ Err d → P d) → (fs : List Field) (d : ReadError) → items_at item fs ≡ Err d → P d
unfolding items_at
items_err P item is [] d e = absurd (cc)
items_err P item is (f ∷ fs) d e = elim (bind_err (item f) (λ x. items_at item fs >>= λ xs. Ok (x ∷ xs)) d e) [
  | inl w ↦ is f d w
  | inr s ↦ elim (bind_err (items_at item fs) (λ xs. Ok (s.0 ∷ xs)) d s.2) [
    | inl w ↦ items_err P item is fs d w
    | inr u ↦ (let never = u.2 in absurd (cc))
  ]
]

pub bad_line_is : {A : Type 0} (number l : ℕ) (o : Option A) → or_bad_line number o ≡ Err (errors.BadLine l) → number ≡ l
bad_line_is number l None e = cc
bad_line_is number l (Some x) e = absurd (cc)
