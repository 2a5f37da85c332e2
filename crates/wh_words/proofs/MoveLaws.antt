-- The laws of images and of traces.
use Rattle.std.proofs.Common.{◌≡◌, ℕ, ◌/◌, ◌==◌, Bool, true, false, cond, List, [], ◌∷◌, refl, sym, ap, ◌∙◌, subst, inl, inr, arith}
use Rattle.std.proofs.lemmas.Bool.{cases_lt}
use Rattle.wh_words.specs.Letters.{inverse_letter}
use Rattle.wh_words.specs.LetterSets.{in_set}
use Rattle.wh_words.specs.Tuples.{TupleData}
use Rattle.wh_words.specs.Moves.{Move, cut_move}
use Rattle.wh_words.specs.Moves.Kind.{swap, invert, cut}
use Rattle.wh_words.specs.Images.{inverse_word}
use Rattle.wh_words.specs.Action.{act}
use Rattle.wh_words.specs.Traces.{IsFlat, IsStep, IsShortestCut, IsTrace}
use Rattle.wh_words.specs.Traces.IsTrace.{done, step}
use Rattle.wh_words.specs.Laws.{ImageOfInverse, TraceIsUnique}
use Rattle.wh_words.proofs.FreeReduction.{inverse-inverse, inverse_generator}
use Rattle.wh_words.proofs.CutWords.{around}
use Rattle.wh_words.proofs.Mapped.{swap_turns, invert_turns}

-- ---- images
around_inverse : (b c : Bool) (a x : ℕ) → around c b a (inverse_letter x) ≡ inverse_word (around b c a x)
around_inverse true true a x = ap (λ z. inverse_letter a ∷ inverse_letter x ∷ z ∷ []) (sym (inverse-inverse a))
around_inverse true false a x = ap (λ z. inverse_letter x ∷ z ∷ []) (sym (inverse-inverse a))
around_inverse false true a x = refl
around_inverse false false a x = refl

cut_inverse : (same b c : Bool) (a x : ℕ) →
    cond same (inverse_letter x ∷ []) (around c b a (inverse_letter x)) ≡ inverse_word (cond same (x ∷ []) (around b c a x))
cut_inverse true b c a x = refl
cut_inverse false b c a x = around_inverse b c a x

pub image_of_inverse : ImageOfInverse
image_of_inverse n (swap k) x h = ap (λ z. z ∷ []) (swap_turns k h.0 x)
image_of_inverse n (invert k) x h = ap (λ z. z ∷ []) (invert_turns k x)
image_of_inverse n (cut a set) x h =
    ap (λ g. cond (g == a / 2) (inverse_letter x ∷ []) (around (in_set set (inverse_letter (inverse_letter x))) (in_set set (inverse_letter x)) a (inverse_letter x))) (inverse_generator x)
    ∙ ap (λ z. cond (x / 2 == a / 2) (inverse_letter x ∷ []) (around (in_set set z) (in_set set (inverse_letter x)) a (inverse_letter x))) (inverse-inverse x)
    ∙ cut_inverse (x / 2 == a / 2) (in_set set (inverse_letter x)) (in_set set x) a x

-- ---- traces
same_multiplier : {t : TupleData} {m n : Move} (s : IsStep t m) (u : IsStep t n) → s.multiplier ≡ u.multiplier
same_multiplier s u = elim (cases_lt s.multiplier u.multiplier) [
  | inl h ↦ absurd (omega (arith, s.cut.shortens, u.earlier s.multiplier h s.set s.cut.valid))
  | inr h ↦ elim (cases_lt u.multiplier s.multiplier) [
    | inl l ↦ absurd (omega (arith, u.cut.shortens, s.earlier u.multiplier l u.set u.cut.valid))
    | inr l ↦ omega (arith, h, l)
  ]
]

same_set : {t : TupleData} {a i j : ℕ} → IsShortestCut t a i → IsShortestCut t a j → i ≡ j
same_set {t} {a} {i} {j} s u = elim (cases_lt i j) [
  | inl h ↦ absurd (omega (arith, u.first i s.valid h, s.shortest j u.valid))
  | inr h ↦ elim (cases_lt j i) [
    | inl l ↦ absurd (omega (arith, s.first j u.valid l, u.shortest i s.valid))
    | inr l ↦ omega (arith, h, l)
  ]
]

pub step_unique : {t : TupleData} {m n : Move} → IsStep t m → IsStep t n → m ≡ n
step_unique {t} {m} {n} s u =
    let a : s.multiplier ≡ u.multiplier = same_multiplier s u in
    let e : s.set ≡ u.set = same_set (subst (λ (b : ℕ). IsShortestCut t b s.set) a s.cut) u.cut in
    s.is ∙ ap (λ b. cut_move t.rank b s.set) a ∙ ap (cut_move t.rank u.multiplier) e ∙ sym u.is

flat_has_none : {t : TupleData} {m : Move} → IsFlat t → IsStep t m → ⊥
flat_has_none f s = omega (arith, s.cut.shortens, f s.multiplier s.set s.cut.valid)

same_trace : {t u v : TupleData} {ms ns : List Move} → IsTrace t ms u → IsTrace t ns v → (ms ≡ ns) × (u ≡ v)
same_trace (done f) (done g) = (refl, refl)
same_trace (done f) (step s r) = absurd (flat_has_none f s)
same_trace (step s r) (done f) = absurd (flat_has_none f s)
same_trace {t} (step {m = m} {ms = ms} {end = u} s r) (step {m = n} {ms = ns} {end = v} z q) =
    let e : m ≡ n = step_unique s z in
    let both : (ms ≡ ns) × (u ≡ v) = same_trace (subst (λ (k : Move). IsTrace (act t k) ms u) e r) q in
    (ap (λ k. k ∷ ms) e ∙ ap (λ l. n ∷ l) both.0, both.1)

pub trace_unique : TraceIsUnique
trace_unique t u v ms ns = same_trace
