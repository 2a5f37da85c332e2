-- The fields of a line are those that it has: for the law on fields.
use Rattle.std.proofs.Common.{◌≡◌, ◌≢◌, ℕ, zero, suc, ◌+◌, ◌≤◌, ◌==◌, false, List, [], ◌∷◌, ◌++◌, length, map, take, drop, sym, ap, ◌∙◌, refl, subst, arith, inl, inr, add-one}
use Rattle.std.specs.List.{All}
use Rattle.std.proofs.lemmas.List.{drop_all, take_all, length-drop}
use Rattle.std.proofs.lemmas.List.Elements.{All-nil, All-cons, All-head, All-tail}
use Rattle.std.proofs.lemmas.Bool.{cases_Bool, cond-true, cond-false, eqb-true, false≢true, cond_both}
use Rattle.std.proofs.Math.Seq.{take-append_seam, take-length}
use Rattle.wh_lines.specs.Lines.{Field, joined, fields}
use Rattle.wh_lines.specs.Scans.{before}
use Rattle.wh_lines.specs.Laws.{IsField, HasFields, ReadsFields}
use Rattle.wh_lines.specs.Laws.HasFields.{none, space, last, field}
use Rattle.wh_lines.proofs.Scanning.{eq_true, eq_false}
use Rattle.wh_lines.proofs.FieldCuts.{field_front}
use Rattle.wh_lines.proofs.Equations.{not_nil}

abbrev pub IsSolid : List ℕ → Type 0
IsSolid f = All (λ b. b ≢ 32) f

-- ---- a line that has these fields
before_space : (f rest : List ℕ) → IsSolid f → before 32 (f ++ 32 ∷ rest) ≡ length f
before_space [] rest h = refl
before_space (b ∷ bs) rest h =
    cond-false (b == 32) 0 (suc (before 32 (bs ++ 32 ∷ rest))) (eq_false b 32 (All-head (λ d. d ≢ 32) b bs h)) ∙ ap (λ n. suc n) (before_space bs rest (All-tail (λ d. d ≢ 32) b bs h))

before_none : (f : List ℕ) → IsSolid f → before 32 f ≡ length f
before_none [] h = refl
before_none (b ∷ bs) h = cond-false (b == 32) 0 (suc (before 32 bs)) (eq_false b 32 (All-head (λ d. d ≢ 32) b bs h)) ∙ ap (λ n. suc n) (before_none bs (All-tail (λ d. d ≢ 32) b bs h))

drop_past : (f rest : List ℕ) → drop (suc (length f)) (f ++ 32 ∷ rest) ≡ rest
drop_past [] rest = refl
drop_past (b ∷ bs) rest = drop_past bs rest

-- the fields of a line that begins with a byte other than space, by the length n of the first one
front_by : (c b : ℕ) (bs : List ℕ) (n : ℕ) → b ≢ 32 → before 32 (b ∷ bs) ≡ n →
    map (λ f. f.bytes) (fields c (b ∷ bs)) ≡ take n (b ∷ bs) ∷ map (λ f. f.bytes) (fields (c + n + 1) (drop (n + 1) (b ∷ bs)))
front_by c b bs n h e =
    ap (λ fs. map (λ f. f.bytes) fs) (field_front c b bs (eq_false b 32 h))
    ∙ ap (λ k. take k (b ∷ bs) ∷ map (λ f. f.bytes) (fields (c + k + 1) (drop (k + 1) (b ∷ bs)))) e

has_back : {fs : List (List ℕ)} {line : List ℕ} (c : ℕ) → HasFields fs line → map (λ f. f.bytes) (fields c line) ≡ fs
has_back c none = refl
has_back c (space h) = has_back (c + 1) h
has_back c (last [] g) = absurd (g.some refl)
has_back c (last (b ∷ bs) g) =
    let n = length (b ∷ bs) in
    front_by c b bs n (All-head (λ d. d ≢ 32) b bs g.solid) (before_none (b ∷ bs) g.solid)
    ∙ ap (λ r. take n (b ∷ bs) ∷ map (λ f. f.bytes) (fields (c + n + 1) r)) (drop_all (n + 1) (b ∷ bs) (omega arith))
    ∙ ap (λ f. f ∷ []) (take-length (b ∷ bs))
has_back c (field [] g h) = absurd (g.some refl)
has_back c (field (b ∷ bs) {fs} {line} g h) =
    let n = length (b ∷ bs) in
    front_by c b (bs ++ 32 ∷ line) n (All-head (λ d. d ≢ 32) b bs g.solid) (before_space (b ∷ bs) line g.solid)
    ∙ ap (λ k. take n (b ∷ (bs ++ 32 ∷ line)) ∷ map (λ f. f.bytes) (fields (c + n + 1) (drop k (b ∷ (bs ++ 32 ∷ line))))) (add-one n)
    ∙ ap (λ r. take n (b ∷ (bs ++ 32 ∷ line)) ∷ map (λ f. f.bytes) (fields (c + n + 1) r)) (drop_past (b ∷ bs) line)
    ∙ ap (λ f. f ∷ map (λ f. f.bytes) (fields (c + n + 1) line)) (take-append_seam (b ∷ bs) (32 ∷ line))
    ∙ ap (λ v. (b ∷ bs) ∷ v) (has_back (c + n + 1) h)

-- ---- the fields that a line has
solid_before : (bs : List ℕ) → IsSolid (take (before 32 bs) bs)
solid_before [] = All-nil (λ b. b ≢ 32)
solid_before (b ∷ bs) = elim (cases_Bool (b == 32)) [
  | inl t ↦ subst (λ (n : ℕ). IsSolid (take n (b ∷ bs))) (sym (cond-true (b == 32) 0 (suc (before 32 bs)) t)) (All-nil (λ b. b ≢ 32))
  | inr f ↦ subst (λ (n : ℕ). IsSolid (take n (b ∷ bs))) (sym (cond-false (b == 32) 0 (suc (before 32 bs)) f))
      (All-cons (λ b. b ≢ 32) b (take (before 32 bs) bs) (λ e. false≢true (sym f ∙ eq_true b 32 e)) (solid_before bs))
]

-- what follows the first n bytes: nothing, or a space
data Rest (bs : List ℕ) (n : ℕ) : Type 0 where
  ends : length bs ≤ n → Rest bs n
  goes : bs ≡ take n bs ++ 32 ∷ drop (suc n) bs → Rest bs n

rest_more : (b : ℕ) (bs : List ℕ) (n : ℕ) → Rest bs n → Rest (b ∷ bs) (suc n)
rest_more b bs n (ends h) = ends (omega (arith, h))
rest_more b bs n (goes e) = goes (ap (λ v. b ∷ v) e)

rest_of : (bs : List ℕ) → Rest bs (before 32 bs)
rest_of [] = ends (omega arith)
rest_of (b ∷ bs) = elim (cases_Bool (b == 32)) [
  | inl t ↦ subst (Rest (b ∷ bs)) (sym (cond-true (b == 32) 0 (suc (before 32 bs)) t)) (goes (ap (λ d. d ∷ bs) (eqb-true b 32 t)))
  | inr f ↦ subst (Rest (b ∷ bs)) (sym (cond-false (b == 32) 0 (suc (before 32 bs)) f)) (rest_more b bs (before 32 bs) (rest_of bs))
]

abbrev pub Has : ℕ → List ℕ → Type 0
Has c line = HasFields (map (λ f. f.bytes) (fields c line)) line

-- a line whose first byte is no space, by the length n of its first field
has_front : (c b : ℕ) (bs : List ℕ) (n : ℕ) → b ≢ 32 → before 32 (b ∷ bs) ≡ n → IsField (take n (b ∷ bs)) → Rest (b ∷ bs) n → Has (c + n + 1) (drop (suc n) (b ∷ bs)) → Has c (b ∷ bs)
has_front c b bs n h e g (ends short) rest =
    let all : take n (b ∷ bs) ≡ b ∷ bs = take_all n (b ∷ bs) short in
    subst (λ (fs : List (List ℕ)). HasFields fs (b ∷ bs))
    (ap (λ v. v ∷ []) (sym all)
    ∙ ap (λ v. take n (b ∷ bs) ∷ map (λ f. f.bytes) (fields (c + n + 1) v)) (sym (drop_all (n + 1) (b ∷ bs) (omega (arith, short))))
    ∙ sym (front_by c b bs n h e))
    (last (b ∷ bs) (subst IsField all g))
has_front c b bs n h e g (goes r) rest =
    subst (λ (fs : List (List ℕ)). HasFields fs (b ∷ bs))
    (sym (front_by c b bs n h e ∙ ap (λ k. take n (b ∷ bs) ∷ map (λ f. f.bytes) (fields (c + n + 1) (drop k (b ∷ bs)))) (add-one n)))
    (subst (HasFields (take n (b ∷ bs) ∷ map (λ f. f.bytes) (fields (c + n + 1) (drop (suc n) (b ∷ bs))))) (sym r) (field (take n (b ∷ bs)) g rest))

take_some : (b : ℕ) (bs : List ℕ) → (b == 32) ≡ false → take (before 32 (b ∷ bs)) (b ∷ bs) ≢ []
take_some b bs f = subst (λ (k : ℕ). take k (b ∷ bs) ≢ []) (sym (cond-false (b == 32) 0 (suc (before 32 bs)) f)) (λ e. absurd (cc))

has : (m c : ℕ) (line : List ℕ) → length line ≤ m → Has c line
has m c [] h = none
has zero c (b ∷ bs) h = absurd (omega (arith, h))
has (suc m) c (b ∷ bs) h = elim (cases_Bool (b == 32)) [
  | inl t ↦ subst (λ (fs : List Field). HasFields (map (λ f. f.bytes) fs) (b ∷ bs)) (sym (cond-true (b == 32) (fields (c + 1) bs) (joined c b (fields (c + 1) bs)) t))
      (subst (λ (d : ℕ). HasFields (map (λ f. f.bytes) (fields (c + 1) bs)) (d ∷ bs)) (sym (eqb-true b 32 t)) (space (has m (c + 1) bs (omega (arith, h)))))
  | inr f ↦ (let n = before 32 (b ∷ bs) in
      has_front c b bs n (λ e. false≢true (sym f ∙ eq_true b 32 e)) refl (record { some = take_some b bs f; solid = solid_before (b ∷ bs) }) (rest_of (b ∷ bs))
      (has m (c + n + 1) (drop (suc n) (b ∷ bs)) (omega (arith, h, length-drop (suc n) (b ∷ bs)))))
]

pub reads_fields : ReadsFields
reads_fields fs line = (λ e. subst (λ (gs : List (List ℕ)). HasFields gs line) e (has (length line) 1 line (omega arith)), λ h. has_back 1 h)

-- ---- no field is empty
abbrev pub AreSome : List Field → Type 0
AreSome fs = All (λ f. f.bytes ≢ []) fs

joined_some : (c b : ℕ) (fs : List Field) → AreSome fs → AreSome (joined c b fs)
joined_some c b [] h = All-cons (λ f. f.bytes ≢ []) (record { column = c; bytes = b ∷ [] }) [] (not_nil b []) h
joined_some c b (f ∷ fs) h =
    cond_both (f.column == c + 1) (record { column = c; bytes = b ∷ f.bytes } ∷ fs) (record { column = c; bytes = b ∷ [] } ∷ f ∷ fs) AreSome
    (λ _. All-cons (λ f. f.bytes ≢ []) (record { column = c; bytes = b ∷ f.bytes }) fs (not_nil b f.bytes) (All-tail (λ f. f.bytes ≢ []) f fs h))
    (λ _. All-cons (λ f. f.bytes ≢ []) (record { column = c; bytes = b ∷ [] }) (f ∷ fs) (not_nil b []) h)

pub fields_some : (c : ℕ) (line : List ℕ) → AreSome (fields c line)
fields_some c [] = All-nil (λ f. f.bytes ≢ [])
fields_some c (b ∷ bs) =
    cond_both (b == 32) (fields (c + 1) bs) (joined c b (fields (c + 1) bs)) AreSome
    (λ _. fields_some (c + 1) bs) (λ _. joined_some c b (fields (c + 1) bs) (fields_some (c + 1) bs))

pub rest_some : (line : List ℕ) (keyword : Field) (fs : List Field) → fields 1 line ≡ keyword ∷ fs → AreSome fs
rest_some line keyword fs f = All-tail (λ g. g.bytes ≡ [] → ⊥) keyword fs (subst AreSome f (fields_some 1 line))
