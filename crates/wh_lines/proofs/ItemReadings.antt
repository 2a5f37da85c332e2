-- Reading letters and words one after the other: for the loops over the bytes of a field and over the fields of a `tuple` line.
use Rattle.std.proofs.Common.{◌≡◌, ℕ, ◌+◌, ◌<◌, ◌≤◌, List, [], ◌∷◌, ◌++◌, length, get_or, drop, sym, ap, ◌∙◌, refl, append-nil, append_assoc, Result, Ok, Err}
use Rattle.std.specs.List.{All}
use Rattle.std.proofs.lemmas.List.{drop_more, drop_all}
use Rattle.std.proofs.lemmas.List.Elements.{All-nil, All-cons}
use Rattle.wh_lines.specs.declared.read_error.ReadError.{ReadError}
use Rattle.wh_lines.specs.Lines.{Field}
use Rattle.wh_lines.specs.Readings.{◌>>=◌, Refuses, items_at}
use Rattle.wh_lines.proofs.Equations.{bind_ok, ok_same}

-- what was read so far, before what reading the rest gives
abbrev pub with_front : {A : Type 0} → List A → Result (List A) ReadError → Result (List A) ReadError
with_front front read = read >>= λ xs. Ok (front ++ xs)

pub front_more : {A : Type 0} (front : List A) (x : A) (r : Result (List A) ReadError) → with_front (front ++ x ∷ []) r ≡ with_front front (r >>= λ xs. Ok (x ∷ xs))
front_more front x (Ok xs) = ap (λ v. Ok v) (append_assoc front (x ∷ []) xs)
front_more front x (Err e) = refl

-- ---- items
items_step : {A : Type 0} (item : Field → Result A ReadError) (fs : List Field) (i : ℕ) (f : Field) → i < length fs → f ≡ get_or fs i f →
    items_at item (drop i fs) ≡ (item f >>= λ w. items_at item (drop (i + 1) fs) >>= λ ws. Ok (w ∷ ws))
unfolding items_at
items_step item fs i f lt is =
    ap (items_at item) (drop_more fs i f lt)
    ∙ ap (λ g. item g >>= λ w. items_at item (drop (i + 1) fs) >>= λ ws. Ok (w ∷ ws)) (sym is)

pub items_more : {A : Type 0} (item : Field → Result A ReadError) (fs : List Field) (out : List A) (i : ℕ) (f : Field) (w : A) → i < length fs → f ≡ get_or fs i f → item f ≡ Ok w →
    with_front out (items_at item (drop i fs)) ≡ items_at item fs → with_front (out ++ w ∷ []) (items_at item (drop (i + 1) fs)) ≡ items_at item fs
items_more item fs out i f w lt is e h =
    front_more out w (items_at item (drop (i + 1) fs))
    ∙ sym (ap (λ r. with_front out (r >>= λ w. items_at item (drop (i + 1) fs) >>= λ ws. Ok (w ∷ ws))) e)
    ∙ sym (ap (with_front out) (items_step item fs i f lt is)) ∙ h

pub items_fail : {A : Type 0} (item : Field → Result A ReadError) (fs : List Field) (out : List A) (i : ℕ) (f : Field) (e : ReadError) → i < length fs → f ≡ get_or fs i f → Refuses (item f) e →
    with_front out (items_at item (drop i fs)) ≡ items_at item fs → Refuses (items_at item fs) e
items_fail item fs out i f e lt is fails h = λ known.
    sym h ∙ ap (with_front out) (items_step item fs i f lt is)
    ∙ ap (λ r. with_front out (r >>= λ w. items_at item (drop (i + 1) fs) >>= λ ws. Ok (w ∷ ws))) (fails known)

pub items_end : {A : Type 0} (item : Field → Result A ReadError) (fs : List Field) (out : List A) (i : ℕ) → length fs ≤ i → with_front out (items_at item (drop i fs)) ≡ items_at item fs → items_at item fs ≡ Ok out
unfolding items_at
items_end item fs out i le h = sym h ∙ ap (λ r. with_front out (items_at item r)) (drop_all i fs le) ∙ ap (λ v. Ok v) (append-nil out)

-- ---- moves
pub items_told : {A : Type 0} (IsTold : A → Type 0) (item : Field → Result A ReadError) → ((f : Field) (x : A) → item f ≡ Ok x → IsTold x) → (fs : List Field) (xs : List A) → items_at item fs ≡ Ok xs → All IsTold xs
unfolding items_at
items_told IsTold item one [] xs e = ok_same (All IsTold) [] xs e (All-nil IsTold)
items_told IsTold item one (f ∷ fs) xs e =
    let a = bind_ok (item f) (λ x. items_at item fs >>= λ ys. Ok (x ∷ ys)) xs e in
    let b = bind_ok (items_at item fs) (λ ys. Ok (a.0 ∷ ys)) xs a.2 in
    ok_same (All IsTold) (a.0 ∷ b.0) xs b.2 (All-cons IsTold a.0 b.0 (one f a.0 a.1) (items_told IsTold item one fs b.0 b.1))
