-- The search for the least rotation by two pointers.
use Rattle.std.proofs.Common.{◌≡◌, ◌≢◌, ℕ, zero, suc, ◌+◌, ◌-◌, ◌%◌, ◌<◌, ◌≤◌, true, false, List, [], ◌∷◌, length, get_or, take, drop, refl, sym, ap, ◌∙◌, subst, inl, inr, ◌⊎◌, arith, length-drop, append-nil}
use Rattle.std.proofs.lemmas.Bool.{cases_eq, cases_lt, true≢false}
use Rattle.std.proofs.lemmas.List.{get_or_append_left, get_or-append_right, get_or-drop, get_or-take, ext_get_or}
use Rattle.std.proofs.Math.Nat.{add-mod_right, mod-add-mod, add-mod-mod, mod-eq_of_lt, mod-lt}
use Rattle.std.proofs.lemmas.Cmp.{nat_list_cmp_total}
use Rattle.std.specs.declared.cmp.Ordering.TheVariants.{Less, Equal}
use Rattle.std.specs.Ordering.{is_gt, ordering_reverse, ordering_then}
use Rattle.std.specs.Cmp.{nat_cmp_is}
use Rattle.wh_words.specs.CyclicWords.{rotate, least_below, least_rotation}
use Rattle.wh_words.specs.Words.{word_cmp}
use Rattle.wh_words.specs.Rounds.{round, Agree}
use Rattle.wh_words.proofs.Rotations.{least_rotation-is, rotate-all}
use Rattle.wh_words.proofs.StoredWords.{rotate-length}

-- what stands from s on comes before what stands from t on
pub record Before (f : ℕ → ℕ) (s t : ℕ) : Type 0 where
  pub at : ℕ
  pub same : (m : ℕ) → m < at → f (s + m) ≡ f (t + m)
  pub less : f (s + at) < f (t + at)

abbrev pub Beaten : (ℕ → ℕ) → ℕ → Type 0
Beaten f t = (s : ℕ) × Before f s t

-- the pointers i and j, from where k letters agree; each other start below j is beaten
pub record Scan (f : ℕ → ℕ) (i j k : ℕ) : Type 0 where
  pub before : i < j
  pub same : (m : ℕ) → m < k → f (i + m) ≡ f (j + m)
  pub beaten : (t : ℕ) → t < j → t ≢ i → Beaten f t

pub scan_start : (f : ℕ → ℕ) → Scan f 0 1 0
scan_start f = record {
  before = omega arith;
  same = λ m h. absurd (omega arith);
  beaten = λ t h n. absurd (n (omega arith));
}

-- where letters agree from both pointers on
pub scan_agree : (f : ℕ → ℕ) (i j k : ℕ) → Scan f i j 0 → ((m : ℕ) → m < k → f (i + m) ≡ f (j + m)) → Scan f i j k
scan_agree f i j k c same = record { before = c.before; same = same; beaten = c.beaten }

-- starts whose letter is above that of the first pointer are passed over
pub scan_above : (f : ℕ → ℕ) (i j k : ℕ) → Scan f i j 0 → j ≤ k → ((t : ℕ) → j ≤ t → t < k → f i < f t) → Scan f i k 0
scan_above f i j k c order above = record {
  before = omega (arith, c.before, order);
  same = λ m h. absurd (omega (arith, h));
  beaten = λ t h n. elim (cases_lt t j) [
    | inl b ↦ c.beaten t b n
    | inr b ↦ (
      i,
      record {
        at = 0;
        same = λ m l. absurd (omega (arith, l));
        less =
            let p : i ≡ i + 0 = omega arith in
            let q : t ≡ t + 0 = omega arith in
            subst (λ (a : ℕ). f a < f (t + 0)) p (subst (λ (b : ℕ). f i < f b) q (above t b h));
      },
    )
  ];
}

-- where two starts agree and then differ, so do those that follow them
before_later : (f : ℕ → ℕ) (i j k d : ℕ) → ((m : ℕ) → m < k → f (i + m) ≡ f (j + m)) → f (i + k) < f (j + k) → d ≤ k → Before f (i + d) (j + d)
before_later f i j k d same less h = record {
  at = k - d;
  same = λ m l.
      let p : i + d + m ≡ i + (d + m) = omega arith in
      let q : j + d + m ≡ j + (d + m) = omega arith in
      ap f p ∙ same (d + m) (omega arith) ∙ sym (ap f q);
  less =
      let p : i + d + (k - d) ≡ i + k = omega arith in
      let q : j + d + (k - d) ≡ j + k = omega arith in
      subst (λ (a : ℕ). f a < f (j + d + (k - d))) (sym p) (subst (λ (b : ℕ). f (i + k) < f b) (sym q) less);
}

beaten_run : (f : ℕ → ℕ) (i j k t : ℕ) → ((m : ℕ) → m < k → f (i + m) ≡ f (j + m)) → f (i + k) < f (j + k) → j ≤ t → t < j + k + 1 → Beaten f t
beaten_run f i j k t same less h l =
    let e : j + (t - j) ≡ t = omega arith in
    subst (Beaten f) e (i + (t - j), before_later f i j k (t - j) same less (omega arith))

pub scan_less : (f : ℕ → ℕ) (i j k : ℕ) → Scan f i j k → f (i + k) < f (j + k) → Scan f i (j + (k + 1)) 0
scan_less f i j k c l = record {
  before = omega (arith, c.before);
  same = λ m h. absurd (omega arith);
  beaten = λ t h n. elim (cases_lt t j) [
    | inl b ↦ c.beaten t b n
    | inr b ↦ beaten_run f i j k t c.same l (omega arith) (omega arith)
  ];
}

beaten_below : (f : ℕ → ℕ) (i j k t : ℕ) → Scan f i j k → f (j + k) < f (i + k) → (t < j) ⊎ (t < i + k + 1) → Beaten f t
beaten_below f i j k t c l h = elim (cases_lt t i) [
  | inl b ↦ c.beaten t (omega (arith, c.before)) (λ e. absurd (omega arith))
  | inr b ↦ elim (cases_lt t (i + k + 1)) [
    | inl q ↦ beaten_run f j i k t (λ m s. sym (c.same m s)) l (omega arith) q
    | inr q ↦ elim h [
      | inl r ↦ c.beaten t r (λ e. absurd (omega arith))
      | inr r ↦ absurd (omega arith)
    ]
  ]
]

-- where the second pointer's letter is below that of the first, the first goes where no start is beaten yet
pub scan_below : (f : ℕ → ℕ) (i j k best from : ℕ) → Scan f i j k → f (j + k) < f (i + k) → ((i + k + 1 < j) × (best ≡ j)) ⊎ ((j ≤ i + k + 1) × (best ≡ i + k + 1)) → from ≡ best + 1 → Scan f best from 0
scan_below f i j k best from c l which next = record {
  before = omega (arith, next);
  same = λ m h. absurd (omega (arith, h));
  beaten = λ t h n. beaten_below f i j k t c l (elim which [
    | inl near ↦ inl (omega (arith, near.1, next, h, n))
    | inr far ↦ inr (omega (arith, far.1, next, h, n))
  ]);
}

-- ---- words
pub round_near : (w : List ℕ) (m : ℕ) → m < length w → round w m ≡ get_or w m 0
round_near w m h = ap (λ i. get_or w i 0) (mod-eq_of_lt h)

round_again : (w : List ℕ) (m : ℕ) → round w (m + length w) ≡ round w m
round_again w m = ap (λ i. get_or w i 0) (add-mod_right m (length w))

pub round_far : (w : List ℕ) (m : ℕ) → length w ≤ m → m < length w + length w → round w m ≡ get_or w (m - length w) 0
round_far w m h l =
    let e : m ≡ (m - length w) + length w = omega arith in
    ap (round w) e ∙ round_again w (m - length w) ∙ round_near w (m - length w) (omega arith)

-- ---- letters that agree
pub agree_none : (w : List ℕ) (i j : ℕ) → Agree w i j 0
agree_none w i j m h = absurd (omega (arith, h))

pub agree_more : (w : List ℕ) (i j k : ℕ) → Agree w i j k → round w (i + k) ≡ round w (j + k) → Agree w i j (k + 1)
agree_more w i j k c e m h = elim (cases_eq m k) [
  | inl q ↦ subst (λ (n : ℕ). round w (i + n) ≡ round w (j + n)) (sym q) e
  | inr n ↦ c m (omega (arith, h, n))
]

pub agree_near : (w : List ℕ) (i j k : ℕ) → i < j → j + k < length w → Agree w i j k → get_or w (i + k) 0 ≡ get_or w (j + k) 0 → Agree w i j (k + 1)
agree_near w i j k order within c e = agree_more w i j k c (round_near w (i + k) (omega arith) ∙ e ∙ sym (round_near w (j + k) within))

-- ---- letters above another
pub none_above : (w : List ℕ) (x from : ℕ) → (t : ℕ) → from ≤ t → t < from → x < get_or w t 0
none_above w x from t h l = absurd (omega (arith, h, l))

pub one_above : (w : List ℕ) (x from k : ℕ) → ((t : ℕ) → from ≤ t → t < k → x < get_or w t 0) → x < get_or w k 0 → (t : ℕ) → from ≤ t → t < k + 1 → x < get_or w t 0
one_above w x from k c h t low l = elim (cases_eq t k) [
  | inl e ↦ subst (λ (n : ℕ). x < get_or w n 0) (sym e) h
  | inr n ↦ c t low (omega (arith, l, n))
]

-- a start may be taken within the word
round_start : (w : List ℕ) (s m : ℕ) → round w (s % length w + m) ≡ round w (s + m)
round_start w s m = ap (λ i. get_or w i 0) (mod-add-mod s (length w) m)

round_end : (w : List ℕ) (s m : ℕ) → round w (s + m % length w) ≡ round w (s + m)
round_end w s m = ap (λ i. get_or w i 0) (add-mod-mod s m (length w))

rotate_reads : (w : List ℕ) (t m : ℕ) → t < length w → m < length w → get_or (rotate t w) m 0 ≡ round w (t + m)
rotate_reads w t m h l = elim (cases_lt (t + m) (length w)) [
  | inl b ↦ get_or_append_left (drop t w) (take t w) 0 m (omega (arith, length-drop t w)) ∙ get_or-drop t w m 0 ∙ sym (round_near w (t + m) b)
  | inr b ↦ (
      let e : m - (length w - t) ≡ t + m - length w = omega arith in
      get_or-append_right (drop t w) (take t w) (length w - t) m 0 (omega (arith, length-drop t w)) (omega arith)
      ∙ get_or-take t w (m - (length w - t)) 0 (omega arith)
      ∙ ap (λ i. get_or w i 0) e
      ∙ sym (round_far w (t + m) (omega arith) (omega arith)))
]

differ_there : (u v : List ℕ) (k : ℕ) → k < length u → k < length v → ((m : ℕ) → m < k → get_or u m 0 ≡ get_or v m 0) → get_or u k 0 < get_or v k 0 → word_cmp u v ≡ Less
differ_there [] v k h l s d = absurd (omega arith)
differ_there (x ∷ u) [] k h l s d = absurd (omega arith)
differ_there (x ∷ u) (y ∷ v) zero h l s d = ap (λ o. ordering_then o (word_cmp u v)) (sym (nat_cmp_is x y Less d))
differ_there (x ∷ u) (y ∷ v) (suc k) h l s d =
    ap (λ o. ordering_then o (word_cmp u v)) (sym (nat_cmp_is x y Equal (s 0 (omega arith))))
    ∙ differ_there u v k (omega arith) (omega arith) (λ m b. s (suc m) (omega arith)) d

-- two starts that agree so far agree for ever
before_within : (w : List ℕ) (s t : ℕ) (b : Before (round w) s t) → 0 < length w → b.at < length w
before_within w s t b h = elim (cases_lt b.at (length w)) [
  | inl l ↦ l
  | inr g ↦ (
      let p : s + b.at ≡ s + (b.at - length w) + length w = omega arith in
      let q : t + b.at ≡ t + (b.at - length w) + length w = omega arith in
      let e : round w (s + b.at) ≡ round w (t + b.at) =
      ap (round w) p ∙ round_again w (s + (b.at - length w)) ∙ b.same (b.at - length w) (omega arith) ∙ sym (ap (round w) q ∙ round_again w (t + (b.at - length w))) in
      absurd (omega (arith, e, b.less)))
]

before_cmp : (w : List ℕ) (s t : ℕ) → s < length w → t < length w → Before (round w) s t → word_cmp (rotate s w) (rotate t w) ≡ Less
before_cmp w s t h l b =
    let k : b.at < length w = before_within w s t b (omega arith) in
    differ_there (rotate s w) (rotate t w) b.at (omega (arith, rotate-length s w)) (omega (arith, rotate-length t w))
    (λ m d. rotate_reads w s m h (omega arith) ∙ b.same m d ∙ sym (rotate_reads w t m l (omega arith)))
    (subst (λ (a : ℕ). a < get_or (rotate t w) b.at 0) (sym (rotate_reads w s b.at h k))
    (subst (λ (c : ℕ). round w (s + b.at) < c) (sym (rotate_reads w t b.at l k)) b.less))

-- the least rotation begins at no beaten start
never_beaten : (w : List ℕ) (t : ℕ) → t < length w → least_rotation w ≡ rotate t w → Beaten (round w) t → ⊥
never_beaten w t h e b =
    let s : ℕ = b.0 % length w in
    let l : s < length w = mod-lt b.0 (omega arith) in
    let moved : Before (round w) s t = record {
      at = b.1.at;
      same = λ m d. round_start w b.0 m ∙ b.1.same m d;
      less = subst (λ (a : ℕ). a < round w (t + b.1.at)) (sym (round_start w b.0 b.1.at)) b.1.less;
    } in
    let upto : is_gt (word_cmp (rotate t w) (rotate s w)) ≡ false =
    subst (λ (v : List ℕ). is_gt (word_cmp v (rotate s w)) ≡ false) e ((least_rotation-is w).least s (omega arith)) in
    let gt : is_gt (word_cmp (rotate t w) (rotate s w)) ≡ true =
    ap is_gt (nat_list_cmp_total.antisymm (rotate t w) (rotate s w) ∙ ap ordering_reverse (before_cmp w s t l h moved)) in
    true≢false (sym gt ∙ upto)

least_there : (w : List ℕ) → 0 < length w → (t : ℕ) × (t < length w) × (least_rotation w ≡ rotate t w)
least_there w h =
    let there : (k : ℕ) × (k ≤ length w) × (least_rotation w ≡ rotate k w) = (least_rotation-is w).there in
    elim (cases_lt there.0 (length w)) [
      | inl l ↦ (there.0, l, there.2)
      | inr g ↦ (let e : there.0 ≡ length w = omega (arith, there.1) in
          (0, h, there.2 ∙ ap (λ i. rotate i w) e ∙ rotate-all w ∙ sym (append-nil w)))
    ]

-- where both pointers see the same for ever, each start that isn't beaten sees the same too
settle : (f : ℕ → ℕ) (i j k : ℕ) → Scan f i j k → ((m : ℕ) → f (i + m) ≡ f (j + m)) → (n t : ℕ) → t < n → (Beaten f t → ⊥) → (m : ℕ) → f (t + m) ≡ f (i + m)
settle f i j k c all zero t h u = absurd (omega arith)
settle f i j k c all (suc n) t h u = elim (cases_lt t j) [
  | inl l ↦ elim (cases_eq t i) [
    | inl e ↦ λ m. ap (λ a. f (a + m)) e
    | inr d ↦ absurd (u (c.beaten t l d))
  ]
  | inr g ↦ (
      let earlier : ℕ = i + (t - j) in
      let moved : (m : ℕ) → f (earlier + m) ≡ f (t + m) = λ m.
      let p : i + (t - j) + m ≡ i + ((t - j) + m) = omega arith in
      let q : j + ((t - j) + m) ≡ t + m = omega arith in
      ap f p ∙ all ((t - j) + m) ∙ ap f q in
      λ m. sym (moved m) ∙ settle f i j k c all n earlier (omega (arith, c.before))
      (λ b. u (
        b.0,
        record {
          at = b.1.at;
          same = λ x d. b.1.same x d ∙ moved x;
          less = subst (λ (a : ℕ). f (b.0 + b.1.at) < a) (moved b.1.at) b.1.less;
        },
      )) m)
]

-- the first pointer stays within the word
pub scan_within : (w : List ℕ) (i j : ℕ) → 0 < length w → Scan (round w) i j 0 → i < length w
scan_within w i j h c =
    let there : (t : ℕ) × (t < length w) × (least_rotation w ≡ rotate t w) = least_there w h in
    elim (cases_lt i (length w)) [
      | inl l ↦ l
      | inr g ↦ absurd (never_beaten w there.0 there.1 there.2 (c.beaten there.0 (omega (arith, there.1, g, c.before)) (λ e. omega (arith, there.1, g, e))))
    ]

-- the second pointer passes over letters above that of the first
pub scan_next : (w : List ℕ) (i j k : ℕ) → 0 < length w → Scan (round w) i j 0 → j ≤ k → (j < k → k ≤ length w) → ((t : ℕ) → j ≤ t → t < k → get_or w i 0 < get_or w t 0) → Scan (round w) i k 0
scan_next w i j k h c order end above =
    let within : i < length w = scan_within w i j h c in
    scan_above (round w) i j k c order (λ t low l.
    subst (λ (a : ℕ). a < round w t) (sym (round_near w i within))
    (subst (λ (b : ℕ). get_or w i 0 < b) (sym (round_near w t (omega (arith, l, end (omega (arith, low, l)))))) (above t low l)))

-- where the search ends
pub scan_done : (w : List ℕ) (i j k : ℕ) → 0 < length w → Scan (round w) i j k → (length w ≤ j) ⊎ (length w ≤ k) → (i < length w) × (rotate i w ≡ least_rotation w)
scan_done w i j k h c d =
    let there : (t : ℕ) × (t < length w) × (least_rotation w ≡ rotate t w) = least_there w h in
    let t : ℕ = there.0 in
    elim (cases_lt j (length w)) [
      | inr past ↦ elim (cases_eq t i) [
        | inl e ↦ (omega (arith, there.1, e), ap (λ a. rotate a w) (sym e) ∙ sym there.2)
        | inr n ↦ absurd (never_beaten w t there.1 there.2 (c.beaten t (omega (arith, there.1)) n))
      ]
      | inl l ↦ (
          let far : length w ≤ k = elim d [
            | inl p ↦ absurd (omega arith)
            | inr p ↦ p
          ] in
          let all : (m : ℕ) → round w (i + m) ≡ round w (j + m) = λ m.
          sym (round_end w i m) ∙ c.same (m % length w) (omega (arith, mod-lt m h)) ∙ round_end w j m in
          let seen : (m : ℕ) → round w (t + m) ≡ round w (i + m) = settle (round w) i j k c all (suc t) t (omega arith) (never_beaten w t there.1 there.2) in
          let within : i < length w = omega (arith, c.before) in (
            within,
            ext_get_or 0 (rotate i w) (rotate t w) (rotate-length i w ∙ sym (rotate-length t w))
                (λ m b. rotate_reads w i m within (omega (arith, rotate-length i w)) ∙ sym (seen m) ∙ sym (rotate_reads w t m there.1 (omega (arith, rotate-length i w))))
                ∙ sym there.2,
          ))
    ]

pub empty_start : (w : List ℕ) → length w ≡ 0 → rotate 0 w ≡ least_rotation w
unfolding least_below
empty_start [] e = refl
empty_start (x ∷ w) e = absurd (omega arith)
