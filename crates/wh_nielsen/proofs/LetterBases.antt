-- Bases whose words are letters: swaps and inversions make them.
use Rattle.wh_composites.specs.SignedPerms.{carry}
use Rattle.std.proofs.Common.{◌≡◌, ◌≢◌, ℕ, zero, suc, ◌+◌, ◌*◌, ◌<◌, ◌≤◌, List, [], ◌∷◌, refl, sym, ap, subst, inl, inr, ◌∙◌, arith, length, append-nil}
use Rattle.std.proofs.lemmas.Bool.{cases_eq}
use Rattle.std.specs.Prelude.{false}
use Rattle.std.specs.List.{flat_map}
use Rattle.std.proofs.lemmas.List.Elements.{All-nil, All-head}
use Rattle.wh_words.specs.Letters.{inverse_letter}
use Rattle.wh_words.specs.Words.{free_reduction, IsOfRank}
use Rattle.wh_words.specs.Images.{invert_letter}
use Rattle.wh_words.specs.Moves.{IsKind}
use Rattle.wh_words.specs.Moves.Kind.{invert}
use Rattle.wh_graph.specs.Laws.{is_of}
use Rattle.wh_words.proofs.LetterMaps.{inverse_below}
use Rattle.wh_peak.proofs.FreeWords.{run, Same, red_of, inverse_of}
use Rattle.wh_peak.proofs.Substitutions.{Substitution}
use Rattle.wh_peak.proofs.DisjointCuts.{is-neither}
use Rattle.wh_peak.proofs.CarriedLetters.{is-back, carry-a, carry-o, carry-turn, carry-undone}
use Rattle.wh_words.proofs.LetterMaps.{invert_here, invert_there}
use Rattle.wh_peak.proofs.Steps.{Step, substitution}
use Rattle.wh_peak.proofs.Steps.Step.{maps}
use Rattle.wh_peak.proofs.CarryWords.{Word}
use Rattle.wh_peak.proofs.KindSteps.{step_of}
use Rattle.wh_peak.proofs.RankedSteps.{Ranked, Ranked-step, carry_ranked, word_below}
use Rattle.wh_peak.specs.Equivalence.{IsMoveOfRank}
use Rattle.wh_nielsen.proofs.CommonFronts.{unique, heads, common, common-other}
use Rattle.wh_nielsen.proofs.Bases.{Basis, turned, something}
use Rattle.wh_nielsen.proofs.LongWords.{IsNielsen, no_shorter}
use Rattle.wh_nielsen.proofs.RepresentedBases.{Represents, stepped, stepped_back, stepped_basis, before_step, stepped_letter}

-- The inverse of a basis.
pub flipped : (n : ℕ) (W V : Substitution) → Basis n W V → Basis n V W
flipped n W V b = record { of_rank = b.inverse_of_rank; inverse_of_rank = b.of_rank; reduced = b.inverse_reduced; inverse_reduced = b.reduced; undone = b.redone; redone = b.undone }

-- ---- words of one letter
abbrev pub AreLetters : ℕ → Substitution → Type 0
AreLetters n W = (x : ℕ) → x < 2 * n → length (W.of x) ≡ 1

-- Where less than a whole word cancels between neighbours, the inverse takes letters to letters.
pub inverse_letters : (n : ℕ) (W V : Substitution) → Basis n W V → IsNielsen n W → AreLetters n V
inverse_letters n W V b h x l =
    let u : length (V.of x) ≤ length (free_reduction (flat_map W.of (V.of x))) = no_shorter n W V b h (V.of x) (b.inverse_of_rank x l) (b.inverse_reduced x l) in
    let e : length (free_reduction (flat_map W.of (V.of x))) ≡ 1 = ap length (red_of (flat_map W.of (V.of x)) (x ∷ []) (b.redone x l)) in
    one (V.of x) (omega (arith, u, e)) (something n V W (flipped n W V b) x l)
  where
    one : (w : List ℕ) → length w ≤ 1 → w ≢ [] → length w ≡ 1
    one [] k n = absurd (n refl)
    one (y ∷ w) k n = omega (arith, k)

apart_letters : (u v : List ℕ) → length u ≡ 1 → length v ≡ 1 → u ≢ v → common u v ≡ 0
apart_letters [] v l m n = absurd (omega (arith, l))
apart_letters (x ∷ u) [] l m n = absurd (omega (arith, m))
apart_letters (x ∷ []) (y ∷ []) l m n = common-other x y [] [] (λ e. n (ap (λ z. z ∷ []) e))
apart_letters (x ∷ []) (y ∷ z ∷ v) l m n = absurd (omega (arith, m))
apart_letters (x ∷ z ∷ u) (y ∷ v) l m n = absurd (omega (arith, l))

-- Other letters have other images.
other_images : (n : ℕ) (W V : Substitution) → Basis n W V → (x s : ℕ) → x < 2 * n → s < 2 * n → s ≢ x → W.of x ≢ W.of s
other_images n W V b x s lx ls ne e =
    ne (sym (heads x s [] [] (red_of (x ∷ []) (s ∷ []) (λ r. sym (b.undone x lx r) ∙ (ap (λ w. run (flat_map V.of w) r) e ∙ b.undone s ls r)))))

pub letters_are_nielsen : (n : ℕ) (W V : Substitution) → Basis n W V → AreLetters n W → IsNielsen n W
letters_are_nielsen n W V b h x s t lx ls lt ns nt =
    let lx' : inverse_letter x < 2 * n = inverse_below n x lx in
    omega (
      arith,
      apart_letters (W.of x) (W.of s) (h x lx) (h s ls) (other_images n W V b x s lx ls ns),
      apart_letters (W.of (inverse_letter x)) (W.of t) (h (inverse_letter x) lx') (h t lt) (other_images n W V b (inverse_letter x) t lx' lt nt),
      h x lx,
    )

-- ---- one generator after the other is put in its place
abbrev FixedFrom : ℕ → ℕ → Substitution → Type 0
FixedFrom n k W = (x : ℕ) → x < 2 * n → 2 * k ≤ x → W.of x ≡ x ∷ []

above : (j x : ℕ) → 2 * j ≤ x → x ≢ 2 * j → x ≢ inverse_letter (2 * j) → 2 * (j + 1) ≤ x
unfolding inverse_letter
above j x m q p = omega arith

not_above : (j x : ℕ) → 2 * (j + 1) ≤ x → x ≢ inverse_letter (2 * j)
unfolding inverse_letter
not_above j x m p = omega (arith, m, p)

fixed_more : (n : ℕ) (W V : Substitution) (j : ℕ) → j < n → Basis n W V → FixedFrom n (j + 1) W → W.of (2 * j) ≡ 2 * j ∷ [] → FixedFrom n j W
unfolding inverse_of
fixed_more n W V j lj b h e x l m = elim (cases_eq x (2 * j)) [
  | inl q ↦ subst (λ (y : ℕ). W.of y ≡ y ∷ []) (sym q) e
  | inr q ↦ elim (cases_eq x (inverse_letter (2 * j))) [
    | inl p ↦ subst (λ (y : ℕ). W.of y ≡ y ∷ []) (sym p) (turned n W V b (2 * j) (omega (arith, lj)) ∙ ap inverse_of e)
    | inr p ↦ h x l (above j x m q p)
  ]
]

-- The letter that goes to a letter.
record Source (n : ℕ) (W : Substitution) (a : ℕ) : Type 0 where
  at : ℕ
  below : at < 2 * n
  goes : W.of at ≡ a ∷ []

source : (n : ℕ) (W V : Substitution) → Basis n W V → AreLetters n W → (a : ℕ) → a < 2 * n → Source n W a
source n W V b h a l =
    let k : length (V.of a) ≡ 1 = inverse_letters n W V b (letters_are_nielsen n W V b h) a l in
    from (V.of a) k (b.inverse_of_rank a l) (b.redone a l)
  where
    from : (w : List ℕ) → length w ≡ 1 → IsOfRank n w → Same (flat_map W.of w) (a ∷ []) → Source n W a
    from [] k o s = absurd (omega (arith, k))
    from (c ∷ d ∷ w) k o s = absurd (omega (arith, k))
    from (c ∷ []) k o s =
        let lc : c < 2 * n = All-head (λ y. y < 2 * n) c [] o in
        record { at = c; below = lc; goes = unique (W.of c) (a ∷ []) (b.reduced c lc) (tt, tt) (λ r. ap (λ w. run w r) (sym (append-nil (W.of c))) ∙ s r) }

letters_stepped : (n : ℕ) (W V : Substitution) (s : Step) (p : ℕ → ℕ) → Basis n W V → ((x : ℕ) → (substitution s).of x ≡ p x ∷ []) → ((x : ℕ) → x < 2 * n → p x < 2 * n) → AreLetters n W → AreLetters n (stepped s W)
letters_stepped n W V s p b e k h x l = ap length (stepped_letter n W V s b x (p x) (e x) (k x l)) ∙ h (p x) (k x l)

module _ (n : ℕ) (few : n ≤ 26) where
  -- A step that leaves the letters above, and after which one more letter is in its place.
  moved : (j : ℕ) → j < n → ((W V : Substitution) → Basis n W V → AreLetters n W → FixedFrom n j W → Represents n W)
      → (W V : Substitution) → Basis n W V → AreLetters n W → FixedFrom n (j + 1) W
      → (s : Step) (p : ℕ → ℕ) → ((x : ℕ) → (substitution s).of x ≡ p x ∷ []) → Ranked n s → ((x : ℕ) → x < 2 * n → p x < 2 * n)
      → W.of (p (2 * j)) ≡ 2 * j ∷ [] → ((x : ℕ) → x < 2 * n → 2 * (j + 1) ≤ x → p x ≡ x) → Represents n W
  moved j l go W V b h f s p e r k here off =
      let t : Basis n (stepped s W) (stepped_back s V) = stepped_basis n W V s b r in
      before_step n W s few r (go (stepped s W) (stepped_back s V) t (letters_stepped n W V s p b e k h)
      (fixed_more n (stepped s W) (stepped_back s V) j l t
      (λ x m q. stepped_letter n W V s b x (p x) (e x) (k x m) ∙ (ap W.of (off x m q) ∙ f x m q))
      (stepped_letter n W V s b (2 * j) (p (2 * j)) (e (2 * j)) (k (2 * j) (omega (arith, l))) ∙ here)))

  -- A letter that goes to one that isn't in its place isn't above.
  low_source : (j : ℕ) → j < n → (W V : Substitution) → Basis n W V → FixedFrom n (j + 1) W → (c x : ℕ) → c < 2 * n → W.of c ≡ 2 * j ∷ [] → x < 2 * n → 2 * (j + 1) ≤ x → is_of c x ≡ false
  unfolding inverse_of
  low_source j l W V b f c x lc e lx m =
      is-neither c x
      (λ q. absurd (omega (arith, m, heads x (2 * j) [] [] (sym (f x lx m) ∙ (ap W.of q ∙ e)))))
      (λ q. not_above j x m (heads x (inverse_letter (2 * j)) [] [] (sym (f x lx m) ∙ (ap W.of q ∙ (turned n W V b c lc ∙ ap inverse_of e)))))

  place : (k : ℕ) → k ≤ n → (W V : Substitution) → Basis n W V → AreLetters n W → FixedFrom n k W → Represents n W
  place zero l W V b h f = record { moves = []; of_rank = All-nil (IsMoveOfRank n); same = λ x m r. ap (λ w. run w r) (sym (f x m (omega arith))) }
  place (suc j) l W V b h f =
      let lj : j < n = omega (arith, l) in
      let g : FixedFrom n (j + 1) W = λ x m q. f x m (omega (arith, q)) in
      let c : Source n W (2 * j) = source n W V b h (2 * j) (omega (arith, l)) in
      let la : 2 * j < 2 * n = omega (arith, l) in
      elim (cases_eq c.at (2 * j)) [
        | inl e ↦ place j (omega (arith, l)) W V b h (fixed_more n W V j lj b g (subst (λ (y : ℕ). W.of y ≡ 2 * j ∷ []) e c.goes))
        | inr ne ↦ elim (cases_eq c.at (inverse_letter (2 * j))) [
          | inl e ↦ (let k : IsKind n (invert (j + 1)) = (omega arith, omega (arith, l)) in
              let r : Ranked n (step_of n (invert (j + 1)) k) = Ranked-step n (invert (j + 1)) k in
              moved j lj (place j (omega (arith, l))) W V b h g (step_of n (invert (j + 1)) k) (invert_letter (j + 1)) (λ x. refl) r (word_below n (invert_letter (j + 1)) r.0)
              (ap W.of (invert_here (j + 1) (2 * j) (omega arith) ∙ sym e) ∙ c.goes)
              (λ x m q. invert_there (j + 1) x (λ z. omega (arith, z, q))))
          | inr ne' ↦ (let ac : is_of (2 * j) c.at ≡ false = is-neither (2 * j) c.at ne ne' in
              let r : Word n (carry (2 * j) c.at) × Word n (carry c.at (2 * j)) = carry_ranked n (2 * j) c.at la c.below ac in
              moved j lj (place j (omega (arith, l))) W V b h g
              (maps (carry (2 * j) c.at) (carry c.at (2 * j)) (carry-turn (2 * j) c.at ac) (carry-turn c.at (2 * j) (is-back (2 * j) c.at ac)) (carry-undone (2 * j) c.at ac) (carry-undone c.at (2 * j) (is-back (2 * j) c.at ac)))
              (carry (2 * j) c.at) (λ x. refl) r (word_below n (carry (2 * j) c.at) r.0)
              (ap W.of (carry-a (2 * j) c.at ac) ∙ c.goes)
              (λ x m q. carry-o (2 * j) c.at ac x (is-neither (2 * j) x (λ z. absurd (omega (arith, z, q))) (not_above j x q)) (low_source j lj W V b g c.at x c.below c.goes m q)))
        ]
      ]

  -- Swaps and inversions make each basis of letters.
  pub letters_represented : (W V : Substitution) → Basis n W V → AreLetters n W → Represents n W
  letters_represented W V b h = place n (omega arith) W V b h (λ x l m. absurd (omega (arith, l, m)))
