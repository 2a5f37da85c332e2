-- The place of the root, and the tree that `tree` lines tell: for the readers of them, and for the laws on what they read.
use Rattle.std.proofs.Common.{◌≡◌, ◌≢◌, ◌↔◌, ℕ, zero, suc, ◌+◌, ◌-◌, ◌≤◌, Bool, not, nat_lt, cond, List, [], ◌∷◌, ◌++◌, length, map, take, drop, sym, ap, ◌∙◌, refl, arith, None, Some, Result, Ok}
use Rattle.std.specs.declared.option.Option.{Option}
use Rattle.std.specs.Option.{unwrap_or}
use Rattle.std.specs.Ordering.{is_eq}
use Rattle.std.specs.List.{All, count_by, slice_get, position, position_or_len, insert, take-map, drop-map}
use Rattle.std.specs.Prelude.{is_some}
use Rattle.std.proofs.lemmas.List.Edits.{length-insert}
use Rattle.std.proofs.lemmas.List.Sums.{sum_by-cons}
use Rattle.std.proofs.lemmas.List.Elements.{All-nil, All-cons, All-head, All-tail, All-map}
use Rattle.std.proofs.lemmas.List.{length-map}
use Rattle.std.proofs.lemmas.List.Quantifiers.{position-Some}
use Rattle.wh_words.specs.Tuples.{TupleData, Tuple, tuple_cmp}
use Rattle.wh_words.specs.Moves.{Move}
use Rattle.wh_lines.specs.declared.read_error.ReadError.{ReadError}
use Rattle.wh_lines.specs.Readings.{◌>>=◌}
use Rattle.wh_lines.specs.LineReadings.{Reading, times}
use Rattle.wh_fields.specs.StabiliserFields.{TreeEdgeData}
use Rattle.wh_data.specs.AnswerData.{plains}
use Rattle.wh_data.specs.RootPlaces.{root_place}
use Rattle.wh_text.specs.Certificates.{tree_with}
use Rattle.wh_lines.proofs.Equations.{bind_ok, ok_is}

-- ---- the place of the root
place_of_map : {X Y : Type 0} (f : X → Y) (p : Y → Bool) (xs : List X) → position_or_len p (map f xs) ≡ position_or_len (λ x. p (f x)) xs
place_of_map f p [] = refl
place_of_map f p (x ∷ xs) = ap (λ k. cond (not (p (f x))) (1 + k) 0) (place_of_map f p xs)

pub place_of_plains : (end : TupleData) (ts : List Tuple) → unwrap_or (position (λ t. is_eq (tuple_cmp t.plain end)) ts) 0 ≡ root_place end (plains ts)
place_of_plains end ts =
    let p : TupleData → Bool = λ t. is_eq (tuple_cmp t end) in
    let place = position_or_len p (plains ts) in
    ap (λ k. unwrap_or (cond (nat_lt k (length ts)) (Some k) None) 0) (sym (place_of_map (λ t. t.plain) p ts))
    ∙ ap (λ n. unwrap_or (cond (nat_lt place n) (Some place) None) 0) (sym (length-map ts (λ t. t.plain)))

-- the root is one of the vertices, where there are some
place_small : {X : Type 0} (p : X → Bool) (xs : List X) (o : Option ℕ) → position p xs ≡ o → unwrap_or o 0 ≤ length xs - 1
place_small p [] None e = omega arith
place_small p (x ∷ xs) None e = omega arith
place_small p [] (Some i) e = absurd (cc)
place_small p (x ∷ xs) (Some i) e = omega (arith, (position-Some p (x ∷ xs) i x e).0)

pub root_small : (end : TupleData) (vs : List TupleData) → root_place end vs ≤ length vs - 1
root_small end vs = place_small (λ t. is_eq (tuple_cmp t end)) vs (position (λ t. is_eq (tuple_cmp t end)) vs) refl

-- ---- trees
-- what a line tells of the vertex that it names
abbrev pub parent : TreeEdgeData → Option (ℕ × Move)
parent e = Some (e.parent, e.move)

pub tree_is : (es : List TreeEdgeData) (root : ℕ) → insert (map (λ (e : TreeEdgeData). Some (e.parent, e.move)) es) root None ≡ tree_with root es
tree_is es root =
    ap (λ xs. xs ++ None ∷ drop root (map parent es)) (take-map parent root es) ∙ ap (λ xs. map parent (take root es) ++ None ∷ xs) (drop-map parent root es)

pub tree_length : (es : List TreeEdgeData) (root : ℕ) → root ≤ length es → length (tree_with root es) ≡ length es + 1
tree_length es root h =
    let parents = map parent es in
    let many : length parents ≡ length es = length-map es parent in
    omega (arith, sym (ap length (tree_is es root)), length-insert parents root None (omega (arith, h, many)), many)

-- all vertices but the root have a parent
parents_count : (es : List TreeEdgeData) → count_by is_some (map parent es) ≡ length es
parents_count [] = refl
parents_count (e ∷ es) = omega (arith, sum_by-cons (λ o. cond (is_some o) 1 0) (parent e) (map parent es), parents_count es)

pub tree_count : (es : List TreeEdgeData) (root : ℕ) → count_by is_some (tree_with root es) ≡ length es
tree_count es zero = parents_count es
tree_count [] (suc r) = refl
tree_count (e ∷ es) (suc r) = omega (arith, sum_by-cons (λ o. cond (is_some o) 1 0) (parent e) (tree_with r es), tree_count es r)

parents_some : (es : List TreeEdgeData) (v : ℕ) → slice_get (map parent es) v ≢ Some None
parents_some [] v h = absurd (cc)
parents_some (e ∷ es) zero h = absurd (cc)
parents_some (e ∷ es) (suc v) h = parents_some es v h

pub tree_root : (es : List TreeEdgeData) (root v : ℕ) → root ≤ length es → (slice_get (tree_with root es) v ≡ Some None) ↔ (v ≡ root)
tree_root es zero zero h = (λ _. refl, λ _. refl)
tree_root es zero (suc v) h = (λ e. absurd (parents_some es v e), λ e. absurd (omega (arith, e)))
tree_root [] (suc r) v h = absurd (omega (arith, h))
tree_root (e ∷ es) (suc r) zero h = (λ e. absurd (cc), λ e. absurd (omega (arith, e)))
tree_root (e ∷ es) (suc r) (suc v) h =
    let later = tree_root es r v (omega (arith, h)) in
    (λ e. ap suc (later.0 e), λ e. later.1 (omega (arith, e)))

pub tree_all : (P : Option (ℕ × Move) → Type 0) (es : List TreeEdgeData) (root : ℕ) → P None → All (λ e. P (parent e)) es → All P (tree_with root es)
tree_all P es zero none all = All-cons P None (map parent es) none (All-map P parent es all)
tree_all P [] (suc r) none all = All-cons P None [] none (All-nil P)
tree_all P (e ∷ es) (suc r) none all =
    All-cons P (parent e) (tree_with r es) (All-head (λ e. P (parent e)) e es all) (tree_all P es r none (All-tail (λ e. P (parent e)) e es all))

-- ---- so many readings
pub times_length : {A : Type 0} (read : Reading → Result (A × Reading) ReadError) (k : ℕ) (p : Reading) (xs : List A) (q : Reading) → times read k p ≡ Ok (xs, q) → length xs ≡ k
unfolding times
times_length {A = A} read zero p xs q e = ap (λ (x : List A × Reading). length x.0) (sym (ok_is ([], p) (xs, q) e))
times_length {A = A} read (suc k) p xs q e =
    let a = bind_ok (read p) (λ x. times read k x.1 >>= λ xs. Ok (x.0 ∷ xs.0, xs.1)) (xs, q) e in
    let b = bind_ok (times read k a.0.1) (λ xs. Ok (a.0.0 ∷ xs.0, xs.1)) (xs, q) a.2 in
    sym (ap (λ (x : List A × Reading). length x.0) (ok_is (a.0.0 ∷ b.0.0, b.0.1) (xs, q) b.2)) ∙ ap suc (times_length read k a.0.1 b.0.0 b.0.1 b.1)
