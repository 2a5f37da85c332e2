-- The pass over a reduced word is reduced.
use Rattle.std.proofs.Common.{◌≡◌, ◌≢◌, ℕ, ◌==◌, Bool, true, false, not, ◌&&◌, cond, List, [], ◌∷◌, ◌++◌, refl, sym, ap, ◌∙◌, subst, inl, inr, ◌⊎◌}
use Rattle.std.proofs.lemmas.Bool.{cases_Bool, cases_eq, eq-eqb, ne_eqb, true≢false}
use Rattle.std.proofs.Math.Bool.{and-false}
use Rattle.wh_words.specs.Letters.{inverse_letter}
use Rattle.wh_words.specs.Words.{IsReduced, StartsOtherThan}
use Rattle.wh_words.proofs.FreeReduction.{inverse-inverse, inverse-other, turned}
use Rattle.wh_words.specs.Passes.{kept, junction_of, pass}

module _ (a : ℕ) (has : ℕ → Bool) (holds : has a ≡ true) (omits : has (inverse_letter a) ≡ false) where
  pub record Other (z : ℕ) : Type 0 where
    pub not_a : z ≢ a
    pub not_inverse : z ≢ inverse_letter a

  -- what may come first after a letter x
  pub record Starts (x z : ℕ) : Type 0 where
    pub at_a : x ≡ a → (z ≡ a) ⊎ (Other z × (has (inverse_letter z) ≡ true))
    pub at_inverse : x ≡ inverse_letter a → (z ≡ inverse_letter a) ⊎ (Other z × (has (inverse_letter z) ≡ false))
    pub at_other : Other x → z ≢ inverse_letter x

  abbrev pub Follows : ℕ → List ℕ → Type 0
  Follows x [] = Unit {0}
  Follows x (z ∷ w) = Starts x z

  core_a : (y : ℕ) → y ≡ a → kept a has y ≡ []
  core_a y e = ap (λ b. cond (not b && not (y == inverse_letter a)) (y ∷ []) []) (eq-eqb y a e)

  core_inverse : (y : ℕ) → y ≡ inverse_letter a → kept a has y ≡ []
  core_inverse y e = ap (λ b. cond (not (y == a) && not b) (y ∷ []) []) (eq-eqb y (inverse_letter a) e) ∙ ap (λ b. cond b (y ∷ []) []) (and-false (not (y == a)))

  core_other : (y : ℕ) → Other y → kept a has y ≡ y ∷ []
  core_other y o = ap (λ b. cond (not b && not (y == inverse_letter a)) (y ∷ []) []) (ne_eqb y a o.not_a) ∙ ap (λ b. cond (not b) (y ∷ []) []) (ne_eqb y (inverse_letter a) o.not_inverse)

  pass_at : (p y : ℕ) (v k : List ℕ) (b c : Bool) → has p ≡ b → has (inverse_letter y) ≡ c → kept a has y ≡ k → pass a has p (y ∷ v) ≡ junction_of a has b c ++ (k ++ pass a has y v)
  pass_at p y v k b c e f g =
      ap (λ (t : Bool). junction_of a has t (has (inverse_letter y)) ++ (kept a has y ++ pass a has y v)) e
      ∙ ap (λ (t : Bool). junction_of a has b t ++ (kept a has y ++ pass a has y v)) f
      ∙ ap (λ (t : List ℕ). junction_of a has b c ++ (t ++ pass a has y v)) g

  clash : (x : ℕ) → has x ≡ true → has x ≡ false → ⊥
  clash x t f = true≢false (sym t ∙ f)

  a_apart : (p : ℕ) → Other p → a ≢ inverse_letter p
  a_apart p o e = o.not_inverse (turned a p e)

  inverse_apart : (p : ℕ) → Other p → inverse_letter a ≢ inverse_letter p
  inverse_apart p o e = o.not_a (sym (inverse-inverse p) ∙ ap inverse_letter (sym e) ∙ inverse-inverse a)

  back_to : (p z : ℕ) → z ≡ inverse_letter p → has (inverse_letter z) ≡ has p
  back_to p z e = ap has (ap inverse_letter e ∙ inverse-inverse p)

  -- after a, nothing that cancels with it, and the same after its inverse
  clear_a : (v : List ℕ) → Follows a v → StartsOtherThan (inverse_letter a) v
  clear_a [] f = tt
  clear_a (z ∷ v) f = elim (f.at_a refl) [ inl e ↦ λ h. inverse-other a (sym h ∙ e) | inr o ↦ o.0.not_inverse ]

  clear_inverse : (v : List ℕ) → Follows (inverse_letter a) v → StartsOtherThan (inverse_letter (inverse_letter a)) v
  clear_inverse [] f = tt
  clear_inverse (z ∷ v) f = elim (f.at_inverse refl) [
    | inl e ↦ λ h. inverse-other a (sym e ∙ h ∙ inverse-inverse a)
    | inr o ↦ λ h. o.0.not_a (h ∙ inverse-inverse a)
  ]

  clear_other : (y : ℕ) (v : List ℕ) → Other y → Follows y v → StartsOtherThan (inverse_letter y) v
  clear_other y [] o f = tt
  clear_other y (z ∷ v) o f = f.at_other o

  starts_a : (p : ℕ) → has p ≡ true → Starts p a
  starts_a p h = record {
    at_a = λ e. inl refl;
    at_inverse = λ e. absurd (clash p h (ap has e ∙ omits));
    at_other = a_apart p;
  }

  starts_inverse : (p : ℕ) → has p ≡ false → Starts p (inverse_letter a)
  starts_inverse p h = record {
    at_a = λ e. absurd (clash p (ap has e ∙ holds) h);
    at_inverse = λ e. inl refl;
    at_other = inverse_apart p;
  }

  -- past an a that was dropped with no letter left, and past its inverse
  follows_past_a : (p : ℕ) (v : List ℕ) → has p ≡ false → a ≢ inverse_letter p → Follows a v → Follows p v
  follows_past_a p [] h n f = tt
  follows_past_a p (z ∷ v) h n f = record {
    at_a = λ e. absurd (clash p (ap has e ∙ holds) h);
    at_inverse = λ e. absurd (n (sym (ap inverse_letter e ∙ inverse-inverse a)));
    at_other = λ o. elim (f.at_a refl) [
      | inl e ↦ λ k. a_apart p o (sym e ∙ k)
      | inr q ↦ λ k. clash p (sym (back_to p z k) ∙ q.1) h
    ];
  }

  follows_past_inverse : (p : ℕ) (v : List ℕ) → has p ≡ true → inverse_letter a ≢ inverse_letter p → Follows (inverse_letter a) v → Follows p v
  follows_past_inverse p [] h n f = tt
  follows_past_inverse p (z ∷ v) h n f = record {
    at_a = λ e. absurd (n (ap inverse_letter (sym e)));
    at_inverse = λ e. absurd (clash p h (ap has e ∙ omits));
    at_other = λ o. elim (f.at_inverse refl) [
      | inl e ↦ λ k. inverse_apart p o (sym e ∙ k)
      | inr q ↦ λ k. clash p h (sym (back_to p z k) ∙ q.1)
    ];
  }

  pub record Good (p : ℕ) (v : List ℕ) : Type 0 where
    pub reduced : IsReduced v
    pub follows : Follows p v

  good_a : (p y : ℕ) (v : List ℕ) → y ≡ a → y ≢ inverse_letter p → Good y (pass a has y v) → Good p (pass a has p (y ∷ v))
  good_a p y v e n g =
      let out : has (inverse_letter y) ≡ false = ap (λ t. has (inverse_letter t)) e ∙ omits in
      let next : Follows a (pass a has y v) = subst (λ (t : ℕ). Follows t (pass a has y v)) e g.follows in
      elim (cases_Bool (has p)) [
        | inl h ↦ subst (Good p) (sym (pass_at p y v [] true false h out (core_a y e)))
            (record { reduced = (clear_a (pass a has y v) next, g.reduced); follows = starts_a p h })
        | inr h ↦ subst (Good p) (sym (pass_at p y v [] false false h out (core_a y e)))
            (record { reduced = g.reduced; follows = follows_past_a p (pass a has y v) h (λ k. n (e ∙ k)) next })
      ]

  good_inverse : (p y : ℕ) (v : List ℕ) → y ≡ inverse_letter a → y ≢ inverse_letter p → Good y (pass a has y v) → Good p (pass a has p (y ∷ v))
  good_inverse p y v e n g =
      let into : has (inverse_letter y) ≡ true = ap has (ap inverse_letter e ∙ inverse-inverse a) ∙ holds in
      let next : Follows (inverse_letter a) (pass a has y v) = subst (λ (t : ℕ). Follows t (pass a has y v)) e g.follows in
      elim (cases_Bool (has p)) [
        | inl h ↦ subst (Good p) (sym (pass_at p y v [] true true h into (core_inverse y e)))
            (record { reduced = g.reduced; follows = follows_past_inverse p (pass a has y v) h (λ k. n (e ∙ k)) next })
        | inr h ↦ subst (Good p) (sym (pass_at p y v [] false true h into (core_inverse y e)))
            (record { reduced = (clear_inverse (pass a has y v) next, g.reduced); follows = starts_inverse p h })
      ]

  good_other : (p y : ℕ) (v : List ℕ) → Other y → y ≢ inverse_letter p → Good y (pass a has y v) → Good p (pass a has p (y ∷ v))
  good_other p y v o n g =
      let rest : IsReduced (y ∷ pass a has y v) = (clear_other y (pass a has y v) o g.follows, g.reduced) in
      elim (cases_Bool (has p)) [
        | inl h ↦ elim (cases_Bool (has (inverse_letter y))) [
          | inl k ↦ subst (Good p) (sym (pass_at p y v (y ∷ []) true true h k (core_other y o)))
              (record { reduced = rest; follows = record { at_a = λ e. inr (o, k); at_inverse = λ e. absurd (clash p h (ap has e ∙ omits)); at_other = λ q. n } })
          | inr k ↦ subst (Good p) (sym (pass_at p y v (y ∷ []) true false h k (core_other y o)))
              (record { reduced = (o.not_inverse, rest); follows = starts_a p h })
        ]
        | inr h ↦ elim (cases_Bool (has (inverse_letter y))) [
          | inl k ↦ subst (Good p) (sym (pass_at p y v (y ∷ []) false true h k (core_other y o)))
              (record { reduced = ((λ e. o.not_a (e ∙ inverse-inverse a)), rest); follows = starts_inverse p h })
          | inr k ↦ subst (Good p) (sym (pass_at p y v (y ∷ []) false false h k (core_other y o)))
              (record { reduced = rest; follows = record { at_a = λ e. absurd (clash p (ap has e ∙ holds) h); at_inverse = λ e. inr (o, k); at_other = λ q. n } })
        ]
      ]

  -- the pass over what follows p in a reduced word is reduced
  pub pass-good : (p : ℕ) (w : List ℕ) → IsReduced (p ∷ w) → Good p (pass a has p w)
  pass-good p [] r = record { reduced = tt; follows = tt }
  pass-good p (y ∷ v) r = elim (cases_eq y a) [
    | inl e ↦ good_a p y v e r.0 (pass-good y v r.1)
    | inr n ↦ elim (cases_eq y (inverse_letter a)) [
      | inl e ↦ good_inverse p y v e r.0 (pass-good y v r.1)
      | inr m ↦ good_other p y v (record { not_a = n; not_inverse = m }) r.0 (pass-good y v r.1)
    ]
  ]
