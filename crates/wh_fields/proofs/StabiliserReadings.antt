-- Reading the fields of a relator one after the other: for the loops over its moves and its numbers.
use Rattle.std.proofs.Common.{◌≡◌, ℕ, ◌+◌, ◌<◌, ◌≤◌, true, false, cond, List, [], ◌∷◌, ◌++◌, length, get_or, drop, refl, sym, ap, ◌∙◌, append-nil, append_assoc, None, Some}
use Rattle.std.specs.Prelude.{codes}
use Rattle.std.specs.declared.option.Option.{Option}
use Rattle.std.specs.Option.{option_and_then, option_map}
use Rattle.std.proofs.lemmas.List.{drop_more, drop_all}
use Rattle.wh_words.specs.Moves.{Move}
use Rattle.wh_lines.specs.Lines.{Field, are}
use Rattle.wh_fields.specs.MoveFields.{kind_in, move_with}
use Rattle.wh_fields.specs.StabiliserFields.{number_in, word_in, moves_before}

-- What was read so far, before what reading the rest gives.
abbrev pub in_front : {A : Type 0} → List A → Option (List A) → Option (List A)
in_front xs o = option_map (λ ys. xs ++ ys) o

pub front_none : {A : Type 0} (o : Option (List A)) → o ≡ in_front [] o
front_none None = refl
front_none (Some xs) = refl

front_more : {A : Type 0} (xs : List A) (x : A) (o : Option (List A)) → in_front (xs ++ x ∷ []) o ≡ in_front xs (option_and_then (λ ys. Some (x ∷ ys)) o)
front_more xs x None = refl
front_more xs x (Some ys) = ap (λ v. Some v) (append_assoc xs (x ∷ []) ys)

-- ---- numbers
word_step : (fs : List Field) (i : ℕ) (f : Field) → i < length fs → f ≡ get_or fs i f → word_in (drop i fs) ≡ option_and_then (λ k. option_and_then (λ ks. Some (k ∷ ks)) (word_in (drop (i + 1) fs))) (number_in f.bytes)
unfolding word_in
word_step fs i f within is =
    ap word_in (drop_more fs i f within) ∙ ap (λ (g : Field). option_and_then (λ k. option_and_then (λ ks. Some (k ∷ ks)) (word_in (drop (i + 1) fs))) (number_in g.bytes)) (sym is)

pub word_more : (fs : List Field) (word : List ℕ) (i k : ℕ) (f : Field) → i < length fs → f ≡ get_or fs i f → number_in f.bytes ≡ Some k → in_front word (word_in (drop i fs)) ≡ word_in fs →
    in_front (word ++ k ∷ []) (word_in (drop (i + 1) fs)) ≡ word_in fs
word_more fs word i k f within is told h =
    front_more word k (word_in (drop (i + 1) fs))
    ∙ sym (ap (in_front word) (word_step fs i f within is ∙ ap (option_and_then (λ j. option_and_then (λ ks. Some (j ∷ ks)) (word_in (drop (i + 1) fs)))) told)) ∙ h

pub word_none : (fs : List Field) (word : List ℕ) (i : ℕ) (f : Field) → i < length fs → f ≡ get_or fs i f → number_in f.bytes ≡ None → in_front word (word_in (drop i fs)) ≡ word_in fs → None ≡ word_in fs
word_none fs word i f within is told h =
    sym (ap (in_front word) (word_step fs i f within is ∙ ap (option_and_then (λ j. option_and_then (λ ks. Some (j ∷ ks)) (word_in (drop (i + 1) fs)))) told)) ∙ h

pub word_end : (fs : List Field) (word : List ℕ) (i : ℕ) → length fs ≤ i → in_front word (word_in (drop i fs)) ≡ word_in fs → Some word ≡ word_in fs
unfolding word_in
word_end fs word i past h = sym (ap (λ gs. in_front word (word_in gs)) (drop_all i fs past) ∙ ap (λ v. Some v) (append-nil word)) ∙ h

-- ---- moves
module _ (n : ℕ) (fs : List Field) (ms : List Move) (i : ℕ) where
  moves_step : (f : Field) → i < length fs → f ≡ get_or fs i f →
      moves_before n (drop i fs) ≡ cond (are f.bytes (codes "=")) (Some []) (option_and_then (λ m. option_and_then (λ ks. Some (m ∷ ks)) (moves_before n (drop (i + 1) fs))) (move_with n (kind_in n f.bytes)))
  unfolding moves_before
  moves_step f within is =
      ap (moves_before n) (drop_more fs i f within)
      ∙ ap (λ (g : Field). cond (are g.bytes (codes "=")) (Some []) (option_and_then (λ m. option_and_then (λ ks. Some (m ∷ ks)) (moves_before n (drop (i + 1) fs))) (move_with n (kind_in n g.bytes)))) (sym is)

  pub moves_sign : (f : Field) → i < length fs → f ≡ get_or fs i f → are f.bytes (codes "=") ≡ true → in_front ms (moves_before n (drop i fs)) ≡ moves_before n fs → Some ms ≡ moves_before n fs
  moves_sign f within is sign h =
      sym (ap (in_front ms) (moves_step f within is ∙ ap (λ b. cond b (Some []) (option_and_then (λ m. option_and_then (λ ks. Some (m ∷ ks)) (moves_before n (drop (i + 1) fs))) (move_with n (kind_in n f.bytes)))) sign) ∙ ap (λ v. Some v) (append-nil ms)) ∙ h

  moves_told : (f : Field) (o : Option Move) → i < length fs → f ≡ get_or fs i f → are f.bytes (codes "=") ≡ false → move_with n (kind_in n f.bytes) ≡ o →
      moves_before n (drop i fs) ≡ option_and_then (λ m. option_and_then (λ ks. Some (m ∷ ks)) (moves_before n (drop (i + 1) fs))) o
  moves_told f o within is sign told =
      moves_step f within is
      ∙ ap (λ b. cond b (Some []) (option_and_then (λ m. option_and_then (λ ks. Some (m ∷ ks)) (moves_before n (drop (i + 1) fs))) (move_with n (kind_in n f.bytes)))) sign
      ∙ ap (option_and_then (λ m. option_and_then (λ ks. Some (m ∷ ks)) (moves_before n (drop (i + 1) fs)))) told

  pub moves_more : (f : Field) (m : Move) → i < length fs → f ≡ get_or fs i f → are f.bytes (codes "=") ≡ false → move_with n (kind_in n f.bytes) ≡ Some m → in_front ms (moves_before n (drop i fs)) ≡ moves_before n fs →
      in_front (ms ++ m ∷ []) (moves_before n (drop (i + 1) fs)) ≡ moves_before n fs
  moves_more f m within is sign told h = front_more ms m (moves_before n (drop (i + 1) fs)) ∙ sym (ap (in_front ms) (moves_told f (Some m) within is sign told)) ∙ h

  pub moves_none : (f : Field) → i < length fs → f ≡ get_or fs i f → are f.bytes (codes "=") ≡ false → move_with n (kind_in n f.bytes) ≡ None → in_front ms (moves_before n (drop i fs)) ≡ moves_before n fs → None ≡ moves_before n fs
  moves_none f within is sign told h = sym (ap (in_front ms) (moves_told f None within is sign told)) ∙ h

  pub moves_end : length fs ≤ i → in_front ms (moves_before n (drop i fs)) ≡ moves_before n fs → None ≡ moves_before n fs
  unfolding moves_before
  moves_end past h = sym (ap (λ gs. in_front ms (moves_before n gs)) (drop_all i fs past)) ∙ h
