-- The tuples of a level, as the program compares each with the one before it.
use Rattle.std.proofs.Common.{◌≡◌, ◌≢◌, ℕ, zero, suc, ◌-◌, ◌<◌, ◌≤◌, Bool, true, false, not, List, [], length, get_or, refl, sym, ap, ◌∙◌, ◌↔◌, IsTrue, nat_eq, arith}
use Rattle.std.specs.Prelude.{Contains}
use Rattle.std.specs.Bool.{MatchBool}
use Rattle.std.specs.List.{All}
use Rattle.std.specs.Ordering.{is_lt}
use Rattle.std.specs.declared.cmp.Ordering.{Ordering}
use Rattle.std.specs.declared.cmp.Ordering.TheVariants.{Less, Equal, Greater}
use Rattle.std.proofs.lemmas.Bool.{true≢false, false≢true, eqb-true, eq-eqb}
use Rattle.std.proofs.lemmas.List.{get_or-map, length-map}
use Rattle.wh_words.specs.Limits.{most_level_rank}
use Rattle.wh_words.specs.Tuples.{TupleData, Tuple, tuple_cmp}
use Rattle.wh_data.specs.AnswerData.{plains}
use Rattle.wh_cert.specs.Demands.{Rises, tuple_at}

-- What stands at a place of the data is the data of what stands there.
pub plain_at : (ts : List Tuple) (k : ℕ) (t : Tuple) → k < length ts → t ≡ get_or ts k t → t.plain ≡ tuple_at (plains ts) k
plain_at ts k t l e = ap (λ (u : Tuple). u.plain) e ∙ sym (get_or-map (λ (u : Tuple). u.plain) ts k t (record { rank = 0; words = [] }) l)

less_tested : (o : Ordering) → is_lt o ≡ true → o ≡ Less
less_tested Less h = refl
less_tested Equal h = absurd (false≢true h)
less_tested Greater h = absurd (false≢true h)

next_rises : (ts : List TupleData) (k : ℕ) (o : Ordering) (b : Bool) → k ≢ 0 → o ≡ tuple_cmp (tuple_at ts (k - 1)) (tuple_at ts k) → b ≡ is_lt o → IsTrue b ↔ Rises ts k
next_rises ts zero o b n e f = absurd (n refl)
next_rises ts (suc k) o b n e f =
    let before : suc k - 1 ≡ k = omega arith in
    let same : o ≡ tuple_cmp (tuple_at ts k) (tuple_at ts (suc k)) = e ∙ ap (λ j. tuple_cmp (tuple_at ts j) (tuple_at ts (suc k))) before in
    (λ h. sym same ∙ less_tested o (sym f ∙ h), λ r. f ∙ ap is_lt (same ∙ r))

-- The comparison of the tuple at a place with the one before it.
pub rises_tested : (ts : List Tuple) (k : ℕ) (t u : Tuple) (o : Ordering) (b : Bool) → k < length ts → k ≢ 0 → t ≡ get_or ts (k - 1) t → u ≡ get_or ts k u → o ≡ tuple_cmp t.plain u.plain → b ≡ is_lt o → IsTrue b ↔ Rises (plains ts) k
rises_tested ts k t u o b l n e f g h =
    next_rises (plains ts) k o b n
    (g ∙ ap (λ d. tuple_cmp d u.plain) (plain_at ts (k - 1) t (omega (arith, l)) e) ∙ ap (tuple_cmp (tuple_at (plains ts) (k - 1))) (plain_at ts k u l f)) h

-- ---- tests by the program
-- Two tuples that are to differ.
pub differ_tested : (b : Bool) (t u : TupleData) → MatchBool b (t ≡ u) (t ≢ u) → IsTrue (not b) ↔ (t ≢ u)
differ_tested true t u h = (λ f. absurd (false≢true f), λ n. absurd (n h))
differ_tested false t u h = (λ f. h, λ n. refl)

pub numbers_tested : (m n k l : ℕ) → m ≡ k → n ≡ l → IsTrue (nat_eq m n) ↔ (k ≡ l)
numbers_tested m n k l e f = (λ h. sym e ∙ eqb-true m n h ∙ f, λ g. eq-eqb m n (e ∙ g ∙ sym f))

pub other_numbers_tested : (m n k l : ℕ) → m ≡ k → n ≡ l → IsTrue (not (nat_eq m n)) ↔ (k ≢ l)
other_numbers_tested m n k l e f = by (nat_eq m n) (eqb-true m n) (eq-eqb m n)
  where
    by : (b : Bool) → (b ≡ true → m ≡ n) → (m ≡ n → b ≡ true) → IsTrue (not b) ↔ (k ≢ l)
    by true h g = (λ t. absurd (false≢true t), λ d. absurd (d (sym e ∙ h refl ∙ f)))
    by false h g = (λ t q. true≢false (sym (g (e ∙ q ∙ sym f))), λ d. refl)

pub plain_listed : (ts : List Tuple) (k : ℕ) (t : Tuple) → k < length ts → t ≡ get_or ts k t → Contains (plains ts) t.plain
plain_listed ts k t l e = (k, omega (arith, l, length-map ts (λ (u : Tuple). u.plain)), get_or-map (λ (u : Tuple). u.plain) ts k t t.plain l ∙ ap (λ (u : Tuple). u.plain) (sym e))

-- The ranks of tuples are those of their data.
pub low_ranks : (n : ℕ) (ts : List Tuple) → All (λ t. t.rank ≡ n) (plains ts) → n ≤ most_level_rank → All (λ t. t.plain.rank ≤ most_level_rank) ts
low_ranks n ts h low k d l =
    let own : (get_or (plains ts) k d.plain).rank ≡ n = h k d.plain (omega (arith, l, length-map ts (λ (u : Tuple). u.plain))) in
    omega (arith, own, ap (λ (t : TupleData). t.rank) (get_or-map (λ (u : Tuple). u.plain) ts k d d.plain l), low)
