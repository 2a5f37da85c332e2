-- For each family, which cuts of a tuple have to keep its length for a list to do so.
use Rattle.std.proofs.Common.{◌≡◌, ◌≢◌, ℕ, ◌+◌, ◌*◌, ◌<◌, ◌≤◌, ◌==◌, Bool, true, false, not, List, [], ◌∷◌, refl, sym, ap, ap₂, subst, inl, inr, ◌∙◌, arith, eq-eqb, ne_eqb, append_assoc, append-nil}
use Rattle.std.proofs.lemmas.Bool.{cases_eq, cases_lt, cases_Bool, eqb-true, and_from}
use Rattle.std.proofs.lemmas.List.Elements.{All-map}
use Rattle.std.specs.Prelude.{cond, ◌&&◌, ◌||◌, ◌++◌}
use Rattle.std.specs.List.{All}
use Rattle.wh_words.specs.Letters.{inverse_letter}
use Rattle.wh_words.specs.LetterSets.{in_set}
use Rattle.wh_words.specs.CyclicWords.{cyclic_word}
use Rattle.wh_words.specs.Tuples.{TupleData, IsTuple, tuple_length}
use Rattle.wh_words.specs.Moves.{Kind, Move, IsKind, IsCut, cut_move, turned_set, inverse_move}
use Rattle.wh_words.specs.Moves.Kind.{swap, invert, cut}
use Rattle.wh_words.specs.Images.{swap_letter, invert_letter}
use Rattle.wh_words.specs.Action.{substitute, act, act_all}
use Rattle.wh_words.specs.Edges.{cap, deg}
use Rattle.wh_words.proofs.FreeReduction.{inverse-inverse, inverse-other}
use Rattle.wh_words.proofs.Complements.{turned_acts}
use Rattle.wh_moves.proofs.InverseMoves.{inverse_is_kind, inverse_move-inverse_move}
use Rattle.wh_graph.specs.SetMasks.{mask}
use Rattle.wh_graph.proofs.SetNumbers.{mask_has}
use Rattle.wh_graph.proofs.Lengths.{length_law, swaps_keep_words, inversions_keep_words}
use Rattle.wh_composites.specs.SignedPerms.{IsTurn}
use Rattle.wh_peak.specs.Equivalence.{IsMoveOfRank, AreMovesOfRank}
use Rattle.wh_peak.specs.Relations.{swap_move, invert_move, cut_back}
use Rattle.wh_peak.proofs.ActionFacts.{normal-normal}
use Rattle.wh_peak.proofs.CutForms.{turned}
use Rattle.wh_peak.proofs.KindSteps.{turned_is}
use Rattle.wh_peak.proofs.DisjointCuts.{is-neither}
use Rattle.wh_peak.proofs.SwapWords.{AreTurns}
use Rattle.wh_peak.proofs.InnerAutomorphisms.{inner-fixes}
use Rattle.wh_peak.proofs.MovesOfRank.{moves_of, none_of_rank, more_of_rank}
use Rattle.wh_peak.proofs.SameComposites.{AgreeOn, agree-of, agree-sym, agree-then, agree-before, agree-after, move-undone, inverse_move-of_rank, composite-same, same-composite}
use Rattle.wh_peak.proofs.AlikeMoves.{one_composite_acts_alike}
use Rattle.wh_peak.proofs.CutRelations.{turned_cut}
use Rattle.wh_relators.specs.Cuts.{Cut, does, undoes, union, union_less, others, mapped_cut, inner}
use Rattle.wh_relators.specs.Families.{cancel, unite, can_unite, meet_in, are_apart, commute, can_commute, conjugate, can_conjugate, carry_kinds, carry_word, change_mult, is_other_mult, swap_cut, invert_cut, complement_cut, conjugate_inner, can_conjugate_inner}
use Rattle.wh_relators.specs.Instances.{stays, keeps}
use Rattle.wh_relators.specs.Kept.{kept, back}
use Rattle.wh_relators.proofs.Lists.{and_first, and_second, same_tests, All-every}
use Rattle.wh_relators.proofs.Sets.{Cuts, inner-cut, from_not, past_rank}
use Rattle.wh_relators.proofs.Carrying.{Carried, carried, carry-of_rank}
use Rattle.wh_relators.proofs.FamilyRelations.{holds-of, others-cut, other_letter, union-cut, union_less-cut, apart-all, cut_ok, back_ok, swap_ok, invert_ok, one, two, three, Good, Conjugates, conjugates, Exchanges, exchanges, unite-good, commute-good, conjugate-good, change-good, swapped_cut, inverted_cut, swap_cut-good, invert_cut-good, complement-good}
use Rattle.wh_relators.proofs.KeptLengths.{undo_last, turned_in, stays-end, stays-make, stays-head, stays-tail, pair_most, Keeps, trivial-acts, before_last, kept_tuple, back_again, pair_keeps, not_in_second, unlike}

-- ---- swaps and inversions
act-cyclic : (u : TupleData) (m : Move) → All (λ w. cyclic_word w ≡ w) (act u m).words
act-cyclic u m = All-map (λ w. cyclic_word w ≡ w) (λ w. cyclic_word (substitute m.kind w)) u.words (All-every (λ w. cyclic_word (cyclic_word (substitute m.kind w)) ≡ cyclic_word (substitute m.kind w)) (λ w. normal-normal (substitute m.kind w)) u.words)

turn_keeps : (n : ℕ) (u : TupleData) (k : Kind) → All (λ w. cyclic_word w ≡ w) u.words → IsTurn n k → tuple_length (act u (record { rank = n; kind = k })) ≡ tuple_length u
turn_keeps n u (swap k) c h = swaps_keep_words u k n c h
turn_keeps n u (invert k) c h = inversions_keep_words u k n c
turn_keeps n u (cut a set) c h = absurd h

turns_keep : (n : ℕ) (u : TupleData) (ks : List Kind) → All (λ w. cyclic_word w ≡ w) u.words → AreTurns n ks → tuple_length (act_all u (moves_of n ks)) ≡ tuple_length u
turns_keep n u [] c h = refl
turns_keep n u (k ∷ ks) c h = turns_keep n (act u (record { rank = n; kind = k })) ks (act-cyclic u (record { rank = n; kind = k })) h.1 ∙ turn_keeps n u k c h.0

turns_stay : (l n : ℕ) (u : TupleData) (ks : List Kind) (rest : List Move) → All (λ w. cyclic_word w ≡ w) u.words → AreTurns n ks → tuple_length u ≡ l → stays l (act_all u (moves_of n ks)) rest ≡ true → stays l u (moves_of n ks ++ rest) ≡ true
turns_stay l n u [] rest c h e k = k
turns_stay l n u (j ∷ ks) rest c h e k =
    let here : tuple_length (act u (record { rank = n; kind = j })) ≡ l = turn_keeps n u j c h.0 ∙ e in
    stays-make l u (record { rank = n; kind = j }) (moves_of n ks ++ rest) here (turns_stay l n (act u (record { rank = n; kind = j })) ks rest (act-cyclic u (record { rank = n; kind = j })) h.1 here k)

-- Swaps and inversions keep the length, so all their lists do.
pub turns_always : (t : TupleData) → IsTuple t → (ks : List Kind) → AreTurns t.rank ks → keeps t (moves_of t.rank ks ++ []) ≡ true
turns_always t is ks h = turns_stay (tuple_length t) t.rank t ks [] is.cyclic h refl (stays-end (tuple_length t) (act_all t (moves_of t.rank ks)))

module _ (t : TupleData) (is : IsTuple t) (few : t.rank ≤ 26) where
  kept_of : (x : Cut) → kept t x ≡ true → Keeps t is few x
  unfolding kept
  kept_of x h = eqb-true (tuple_length (act t (does t.rank x))) (tuple_length t) h

  kept_from : (x : Cut) → Keeps t is few x → kept t x ≡ true
  unfolding kept
  kept_from x h = eq-eqb (tuple_length (act t (does t.rank x))) (tuple_length t) h

  both_of : (p q : Bool) → p ≡ true → q ≡ true → (p && q) ≡ true
  both_of p q h k = and_from p q h k

  -- ---- first
  pub cancel_keeps : (x : Cut) → Cuts t.rank x → keeps t (cancel t.rank x) ≡ kept t x
  cancel_keeps x u = same_tests (keeps t (cancel t.rank x)) (kept t x)
      (λ h. kept_from x (stays-head (tuple_length t) t (does t.rank x) (undoes t.rank x ∷ []) h))
      (λ k. stays-make (tuple_length t) t (does t.rank x) (undoes t.rank x ∷ []) (kept_of x k)
      (stays-make (tuple_length t) (act t (does t.rank x)) (undoes t.rank x) [] (ap tuple_length (back_again t is few (does t.rank x) (cut_ok t.rank few u))) (stays-end (tuple_length t) (act (act t (does t.rank x)) (undoes t.rank x)))))

  -- ---- second
  pub unite_keeps : (x y : Cut) → Cuts t.rank x → Cuts t.rank y → can_unite t.rank x y ≡ true → keeps t (unite t.rank x y) ≡ (kept t x && kept t (record { mult = x.mult; set = union t.rank x.set y.set }))
  unite_keeps x y u v h =
      let n : ℕ = t.rank in
      let z : Cut = record { mult = x.mult; set = union t.rank x.set y.set } in
      let g : Good t.rank few (unite t.rank x y) = unite-good t.rank few x y u v h in
      let w : IsCut t.rank x.mult (union t.rank x.set y.set) = united-cut x y u v h in
      let second : act (act t (does t.rank x)) (does t.rank y) ≡ act t (cut_move t.rank x.mult (union t.rank x.set y.set)) =
      before_last t is few (does t.rank x ∷ does t.rank y ∷ []) (cut_move t.rank x.mult (union t.rank x.set y.set)) (two t.rank few (cut_ok t.rank few u) (cut_ok t.rank few v)) (cut_ok t.rank few w) g.trivial in
      let whole : act_all t (unite t.rank x y) ≡ t = trivial-acts t is few (unite t.rank x y) g.of_rank g.trivial in
      same_tests (keeps t (unite t.rank x y)) (kept t x && kept t (record { mult = x.mult; set = union t.rank x.set y.set }))
      (λ k. both_of (kept t x) (kept t (record { mult = x.mult; set = union t.rank x.set y.set })) (kept_from x (stays-head _ _ _ _ k))
      (kept_from (record { mult = x.mult; set = union t.rank x.set y.set }) (ap tuple_length (sym second) ∙ stays-head _ _ _ _ (stays-tail _ _ _ _ k))))
      (λ k. stays-make _ _ _ _ (kept_of x (and_first (kept t x) (kept t (record { mult = x.mult; set = union t.rank x.set y.set })) k))
      (stays-make _ _ _ _ (ap tuple_length second ∙ kept_of (record { mult = x.mult; set = union t.rank x.set y.set }) (and_second (kept t x) (kept t (record { mult = x.mult; set = union t.rank x.set y.set })) k))
      (stays-make _ _ _ _ (ap tuple_length whole) (stays-end _ _))))
    where
      united-cut : (x y : Cut) → Cuts t.rank x → Cuts t.rank y → can_unite t.rank x y ≡ true → IsCut t.rank x.mult (union t.rank x.set y.set)
      united-cut x y u v h = union-cut t.rank x.mult x.set y.set u (subst (λ (a : ℕ). IsCut t.rank a y.set) (sym (eqb-true x.mult y.mult (and_first (x.mult == y.mult) (meet_in t.rank x.mult x.set y.set) h))) v)

  -- ---- third
  pub commute_keeps : (x y : Cut) → Cuts t.rank x → Cuts t.rank y → can_commute t.rank x y ≡ true → keeps t (commute t.rank x y) ≡ (kept t x && kept t y)
  commute_keeps x y u v h =
      let g : Good t.rank few (commute t.rank x y) = commute-good t.rank few x y u v h in
      let third : act (act (act t (does t.rank x)) (does t.rank y)) (undoes t.rank x) ≡ act t (does t.rank y) =
      before_last t is few (does t.rank x ∷ does t.rank y ∷ undoes t.rank x ∷ []) (does t.rank y) (three t.rank few (cut_ok t.rank few u) (cut_ok t.rank few v) (back_ok t.rank few u)) (cut_ok t.rank few v) g.trivial in
      let whole : act_all t (commute t.rank x y) ≡ t = trivial-acts t is few (commute t.rank x y) g.of_rank g.trivial in
      same_tests (keeps t (commute t.rank x y)) (kept t x && kept t y)
      (λ k. both_of (kept t x) (kept t y) (kept_from x (stays-head _ _ _ _ k)) (kept_from y (ap tuple_length (sym third) ∙ stays-head _ _ _ _ (stays-tail _ _ _ _ (stays-tail _ _ _ _ k)))))
      (λ k. stays-make _ _ _ _ (kept_of x (and_first (kept t x) (kept t y) k))
      (stays-make _ _ _ _ (joint x y u v h (kept_of x (and_first (kept t x) (kept t y) k)) (kept_of y (and_second (kept t x) (kept t y) k)))
      (stays-make _ _ _ _ (ap tuple_length third ∙ kept_of y (and_second (kept t x) (kept t y) k))
      (stays-make _ _ _ _ (ap tuple_length whole) (stays-end _ _)))))
    where
      joint : (x y : Cut) → Cuts t.rank x → Cuts t.rank y → can_commute t.rank x y ≡ true → Keeps t is few x → Keeps t is few y → tuple_length (act (act t (does t.rank x)) (does t.rank y)) ≡ tuple_length t
      joint x y u v h kx ky =
          pair_keeps t is few x.mult y.mult x.set y.set u v (apart-all t.rank x.set y.set u.within (and_first (are_apart t.rank x.set y.set) (not (in_set y.set (inverse_letter x.mult)) && not (in_set x.set (inverse_letter y.mult))) h))
          (from_not (in_set y.set (inverse_letter x.mult)) (and_first (not (in_set y.set (inverse_letter x.mult))) (not (in_set x.set (inverse_letter y.mult))) (and_second (are_apart t.rank x.set y.set) (not (in_set y.set (inverse_letter x.mult)) && not (in_set x.set (inverse_letter y.mult))) h))) kx ky

  -- ---- fourth
  -- From equal ends, where a move stands behind one list, to equal beginnings.
  go_back : (m c : Move) (ms : List Move) → AreMovesOfRank t.rank ms → IsMoveOfRank t.rank m → IsMoveOfRank t.rank c → AgreeOn t.rank (ms ++ m ∷ []) (c ∷ []) → AgreeOn t.rank ms (c ∷ inverse_move m ∷ [])
  go_back m c ms hms hm hc h =
      let hi : IsMoveOfRank t.rank (inverse_move m) = inverse_move-of_rank t.rank m hm in
      agree-then t.rank ms (ms ++ (m ∷ inverse_move m ∷ [])) (c ∷ inverse_move m ∷ [])
      (agree-sym t.rank (ms ++ (m ∷ inverse_move m ∷ [])) ms
      (agree-then t.rank (ms ++ (m ∷ inverse_move m ∷ [])) (ms ++ []) ms (agree-before t.rank ms (m ∷ inverse_move m ∷ []) [] hms (two t.rank few hm hi) (move-undone t.rank m hm)) (agree-of t.rank (ms ++ []) ms (append-nil ms))))
      (agree-then t.rank (ms ++ (m ∷ inverse_move m ∷ [])) ((ms ++ m ∷ []) ++ inverse_move m ∷ []) (c ∷ inverse_move m ∷ [])
      (agree-of t.rank (ms ++ (m ∷ inverse_move m ∷ [])) ((ms ++ m ∷ []) ++ inverse_move m ∷ []) (sym (append_assoc ms (m ∷ []) (inverse_move m ∷ []))))
      (agree-after t.rank (ms ++ m ∷ []) (c ∷ []) (inverse_move m ∷ []) (one t.rank few hc) (one t.rank few hi) h))

  module _ (x y : Cut) (u : Cuts t.rank x) (v : Cuts t.rank y) (h : can_conjugate t.rank x y ≡ true) where
    conj : Conjugates t.rank few x y
    conj = conjugates t.rank few x y u h

    C : ℕ
    C = union_less t.rank x.set y.set y.mult

    wC : IsCut t.rank x.mult (union_less t.rank x.set y.set y.mult)
    wC = union_less-cut t.rank x.mult y.mult x.set y.set u v conj.apart conj.lacks

    conj-good : Good t.rank few (conjugate t.rank x y)
    conj-good = conjugate-good t.rank few x y u v h

    conj-third : act (act (act t (undoes t.rank y)) (does t.rank x)) (does t.rank y) ≡ act t (cut_move t.rank x.mult (union_less t.rank x.set y.set y.mult))
    conj-third = before_last t is few (undoes t.rank y ∷ does t.rank x ∷ does t.rank y ∷ []) (cut_move t.rank x.mult (union_less t.rank x.set y.set y.mult)) (three t.rank few (back_ok t.rank few v) (cut_ok t.rank few u) (cut_ok t.rank few v)) (cut_ok t.rank few wC) conj-good.trivial

    conj-whole : act_all t (conjugate t.rank x y) ≡ t
    conj-whole = trivial-acts t is few (conjugate t.rank x y) conj-good.of_rank conj-good.trivial

    wB : IsCut t.rank (inverse_letter y.mult) (turned_set y.mult y.set)
    wB = inverse_is_kind t.rank (cut y.mult y.set) v

    wD : IsCut t.rank (inverse_letter x.mult) (mask (2 * t.rank) (λ z. not (in_set (union_less t.rank x.set y.set y.mult) z)))
    wD = others-cut t.rank x.mult (union_less t.rank x.set y.set y.mult) wC

    not_x : y.mult ≢ x.mult
    not_x = unlike x.mult y.mult x.set y.set conj.apart (holds-of u) (holds-of v)

    not_x' : y.mult ≢ inverse_letter x.mult
    not_x' e = other_letter y.set y.mult (inverse_letter x.mult) (holds-of v) conj.lacks e

    -- The complement of the joint set and the turned second set are disjoint.
    D-apart : (z : ℕ) → (in_set (mask (2 * t.rank) (λ q. not (in_set (union_less t.rank x.set y.set y.mult) q))) z && in_set (turned_set y.mult y.set) z) ≡ false
    unfolding turned
    D-apart z = elim (cases_lt z (2 * t.rank)) [
      | inr g ↦ ap (λ b. b && in_set (turned_set y.mult y.set) z) (past_rank t.rank (mask (2 * t.rank) (λ q. not (in_set (union_less t.rank x.set y.set y.mult) q))) z wD.within g)
      | inl l ↦ ap₂ (λ b c. b && c)
          (mask_has (2 * t.rank) (λ q. not (in_set (union_less t.rank x.set y.set y.mult) q)) z l ∙ ap not (mask_has (2 * t.rank) (λ q. (in_set x.set q || in_set y.set q) && not (q == y.mult)) z l))
          (turned_is y.mult y.set v.holds v.omits z)
          ∙ elim (cases_eq z (inverse_letter y.mult)) [
            | inl e ↦ ap₂ (λ b c. not ((b || in_set y.set z) && not c) && turned y.mult (in_set y.set) z) (ap (in_set x.set) e ∙ conj.has) (ne_eqb z y.mult (λ q. inverse-other y.mult (sym e ∙ q)))
            | inr k ↦ rest (in_set x.set z) (in_set y.set z) (z == y.mult) (z == inverse_letter y.mult) (ne_eqb z (inverse_letter y.mult) k)
          ]
    ]
      where
        rest : (p q e f : Bool) → f ≡ false → (not ((p || q) && not e) && ((q && not e) || f)) ≡ false
        rest true true true f h = h
        rest true true false f h = refl
        rest true false true f h = h
        rest true false false f h = refl
        rest false true true f h = h
        rest false true false f h = refl
        rest false false true f h = h
        rest false false false f h = h

    second-most : Keeps t is few (back y) → Keeps t is few (record { mult = x.mult; set = union_less t.rank x.set y.set y.mult }) → tuple_length (act (act t (undoes t.rank y)) (does t.rank x)) ≤ tuple_length t
    second-most ky kc =
        let D : ℕ = mask (2 * t.rank) (λ z. not (in_set (union_less t.rank x.set y.set y.mult) z)) in
        let same : act t (cut_move t.rank (inverse_letter x.mult) (mask (2 * t.rank) (λ z. not (in_set (union_less t.rank x.set y.set y.mult) z)))) ≡ act t (cut_move t.rank x.mult (union_less t.rank x.set y.set y.mult)) =
        turned_acts t x.mult (union_less t.rank x.set y.set y.mult) (mask (2 * t.rank) (λ z. not (in_set (union_less t.rank x.set y.set y.mult) z))) is wC wD (λ z l. mask_has (2 * t.rank) (λ q. not (in_set (union_less t.rank x.set y.set y.mult) q)) z l) in
        let agree : AgreeOn t.rank (undoes t.rank y ∷ does t.rank x ∷ []) (cut_move t.rank x.mult (union_less t.rank x.set y.set y.mult) ∷ undoes t.rank y ∷ []) =
        go_back (does t.rank y) (cut_move t.rank x.mult (union_less t.rank x.set y.set y.mult)) (undoes t.rank y ∷ does t.rank x ∷ []) (two t.rank few (back_ok t.rank few v) (cut_ok t.rank few u)) (cut_ok t.rank few v) (cut_ok t.rank few wC)
        (undo_last t.rank (undoes t.rank y ∷ does t.rank x ∷ does t.rank y ∷ []) (cut_move t.rank x.mult (union_less t.rank x.set y.set y.mult)) (three t.rank few (back_ok t.rank few v) (cut_ok t.rank few u) (cut_ok t.rank few v)) (cut_ok t.rank few wC)
        (same-composite t.rank (conjugate t.rank x y) [] conj-good.of_rank (none_of_rank t.rank) conj-good.trivial)) in
        let way : act (act t (undoes t.rank y)) (does t.rank x) ≡ act (act t (cut_move t.rank x.mult (union_less t.rank x.set y.set y.mult))) (undoes t.rank y) =
        one_composite_acts_alike t (undoes t.rank y ∷ does t.rank x ∷ []) (cut_move t.rank x.mult (union_less t.rank x.set y.set y.mult) ∷ undoes t.rank y ∷ []) is
        (two t.rank few (back_ok t.rank few v) (cut_ok t.rank few u)) (two t.rank few (cut_ok t.rank few wC) (back_ok t.rank few v)) (composite-same t.rank _ _ agree) in
        let most : tuple_length (act (act t (cut_move t.rank (inverse_letter x.mult) (mask (2 * t.rank) (λ z. not (in_set (union_less t.rank x.set y.set y.mult) z))))) (cut_move t.rank (inverse_letter y.mult) (turned_set y.mult y.set)))
        + (deg (inverse_letter x.mult) t + deg (inverse_letter y.mult) t) ≤ tuple_length t + (cap (in_set (mask (2 * t.rank) (λ z. not (in_set (union_less t.rank x.set y.set y.mult) z)))) t + cap (in_set (turned_set y.mult y.set)) t) =
        pair_most t is (inverse_letter x.mult) (inverse_letter y.mult) (mask (2 * t.rank) (λ z. not (in_set (union_less t.rank x.set y.set y.mult) z))) (turned_set y.mult y.set) wD wB D-apart
        (not_in_second (inverse_letter x.mult) (inverse_letter y.mult) (mask (2 * t.rank) (λ z. not (in_set (union_less t.rank x.set y.set y.mult) z))) (turned_set y.mult y.set) D-apart (holds-of wD) (holds-of wB))
        (ap (in_set (turned_set y.mult y.set)) (inverse-inverse x.mult) ∙ turned_in y.mult y.set x.mult v.holds v.omits (λ e. conj.other (sym e)) (not_in_second x.mult y.mult x.set y.set conj.apart (holds-of u) (holds-of v)))
        (is-neither (inverse_letter x.mult) (inverse_letter y.mult) (λ e. not_x (sym (inverse-inverse y.mult) ∙ (ap inverse_letter e ∙ inverse-inverse x.mult))) (λ e. conj.other (e ∙ inverse-inverse x.mult))) in
        omega (
          arith,
          most,
          ky,
          kc,
          ap tuple_length way,
          ap tuple_length same,
          ap (λ (s : TupleData). tuple_length (act s (cut_move t.rank (inverse_letter y.mult) (turned_set y.mult y.set)))) same,
          length_law t (inverse_letter x.mult) (mask (2 * t.rank) (λ z. not (in_set (union_less t.rank x.set y.set y.mult) z))) is wD,
          length_law t (inverse_letter y.mult) (turned_set y.mult y.set) is wB,
        )

    second-least : Keeps t is few (back y) → Keeps t is few (record { mult = x.mult; set = union_less t.rank x.set y.set y.mult }) → tuple_length t ≤ tuple_length (act (act t (undoes t.rank y)) (does t.rank x))
    second-least ky kc =
        let ns : IsTuple (act t (undoes t.rank y)) = kept_tuple t is few (undoes t.rank y) (back_ok t.rank few v) ky in
        let home : act (act t (undoes t.rank y)) (does t.rank y) ≡ t =
        subst (λ (m : Move). act (act t (undoes t.rank y)) m ≡ t) (inverse_move-inverse_move (does t.rank y) (cut_ok t.rank few v).valid) (back_again t is few (undoes t.rank y) (back_ok t.rank few v)) in
        let most : tuple_length (act (act (act t (undoes t.rank y)) (cut_move t.rank x.mult x.set)) (cut_move t.rank y.mult y.set)) + (deg x.mult (act t (undoes t.rank y)) + deg y.mult (act t (undoes t.rank y)))
        ≤ tuple_length (act t (undoes t.rank y)) + (cap (in_set x.set) (act t (undoes t.rank y)) + cap (in_set y.set) (act t (undoes t.rank y))) =
        pair_most (act t (undoes t.rank y)) ns x.mult y.mult x.set y.set u v conj.apart (not_in_second x.mult y.mult x.set y.set conj.apart (holds-of u) (holds-of v)) conj.lacks (is-neither x.mult y.mult not_x not_x') in
        omega (
          arith,
          most,
          ky,
          kc,
          ap tuple_length home,
          ap tuple_length conj-third,
          length_law (act t (undoes t.rank y)) x.mult x.set ns u,
          length_law (act t (undoes t.rank y)) y.mult y.set ns v,
        )

    pub conjugate_keeps : keeps t (conjugate t.rank x y) ≡ (kept t (back y) && kept t (record { mult = x.mult; set = union_less t.rank x.set y.set y.mult }))
    conjugate_keeps =
        let z : Cut = record { mult = x.mult; set = union_less t.rank x.set y.set y.mult } in
        same_tests (keeps t (conjugate t.rank x y)) (kept t (back y) && kept t (record { mult = x.mult; set = union_less t.rank x.set y.set y.mult }))
        (λ k. both_of (kept t (back y)) (kept t (record { mult = x.mult; set = union_less t.rank x.set y.set y.mult })) (kept_from (back y) (stays-head _ _ _ _ k))
        (kept_from (record { mult = x.mult; set = union_less t.rank x.set y.set y.mult }) (ap tuple_length (sym conj-third) ∙ stays-head _ _ _ _ (stays-tail _ _ _ _ (stays-tail _ _ _ _ k)))))
        (λ k.
        let ky : Keeps t is few (back y) = kept_of (back y) (and_first (kept t (back y)) (kept t (record { mult = x.mult; set = union_less t.rank x.set y.set y.mult })) k) in
        let kc : Keeps t is few (record { mult = x.mult; set = union_less t.rank x.set y.set y.mult }) = kept_of (record { mult = x.mult; set = union_less t.rank x.set y.set y.mult }) (and_second (kept t (back y)) (kept t (record { mult = x.mult; set = union_less t.rank x.set y.set y.mult })) k) in
        stays-make _ _ _ _ ky (stays-make _ _ _ _ (omega (arith, second-most ky kc, second-least ky kc)) (stays-make _ _ _ _ (ap tuple_length conj-third ∙ kc) (stays-make _ _ _ _ (ap tuple_length conj-whole) (stays-end _ _)))))

  -- ---- sixth
  pub swap_cut_keeps : (k : ℕ) (x : Cut) → IsKind t.rank (swap k) → Cuts t.rank x → keeps t (swap_cut t.rank k x) ≡ kept t (mapped_cut t.rank (swap_letter k) x)
  swap_cut_keeps k x s u =
      let m : Move = swap_move t.rank k in
      let g : Good t.rank few (swap_cut t.rank k x) = swap_cut-good t.rank few k x s u in
      let third : act (act (act t (swap_move t.rank k)) (does t.rank x)) (swap_move t.rank k) ≡ act t (does t.rank (mapped_cut t.rank (swap_letter k) x)) =
      before_last t is few (swap_move t.rank k ∷ does t.rank x ∷ swap_move t.rank k ∷ []) (does t.rank (mapped_cut t.rank (swap_letter k) x)) (three t.rank few (swap_ok t.rank few s) (cut_ok t.rank few u) (swap_ok t.rank few s)) (cut_ok t.rank few (swapped_cut t.rank few k s x u)) g.trivial in
      let whole : act_all t (swap_cut t.rank k x) ≡ t = trivial-acts t is few (swap_cut t.rank k x) g.of_rank g.trivial in
      let last : tuple_length (act (act (act t (swap_move t.rank k)) (does t.rank x)) (swap_move t.rank k)) ≡ tuple_length (act (act t (swap_move t.rank k)) (does t.rank x)) =
      turn_keeps t.rank (act (act t (swap_move t.rank k)) (does t.rank x)) (swap k) (act-cyclic (act t (swap_move t.rank k)) (does t.rank x)) s in
      same_tests (keeps t (swap_cut t.rank k x)) (kept t (mapped_cut t.rank (swap_letter k) x))
      (λ h. kept_from (mapped_cut t.rank (swap_letter k) x) (ap tuple_length (sym third) ∙ stays-head _ _ _ _ (stays-tail _ _ _ _ (stays-tail _ _ _ _ h))))
      (λ h. stays-make _ _ _ _ (turn_keeps t.rank t (swap k) is.cyclic s) (stays-make _ _ _ _ (sym last ∙ (ap tuple_length third ∙ kept_of (mapped_cut t.rank (swap_letter k) x) h))
      (stays-make _ _ _ _ (ap tuple_length third ∙ kept_of (mapped_cut t.rank (swap_letter k) x) h) (stays-make _ _ _ _ (ap tuple_length whole) (stays-end _ _)))))

  pub invert_cut_keeps : (k : ℕ) (x : Cut) → IsKind t.rank (invert k) → Cuts t.rank x → keeps t (invert_cut t.rank k x) ≡ kept t (mapped_cut t.rank (invert_letter k) x)
  invert_cut_keeps k x s u =
      let g : Good t.rank few (invert_cut t.rank k x) = invert_cut-good t.rank few k x s u in
      let third : act (act (act t (invert_move t.rank k)) (does t.rank x)) (invert_move t.rank k) ≡ act t (does t.rank (mapped_cut t.rank (invert_letter k) x)) =
      before_last t is few (invert_move t.rank k ∷ does t.rank x ∷ invert_move t.rank k ∷ []) (does t.rank (mapped_cut t.rank (invert_letter k) x)) (three t.rank few (invert_ok t.rank few s) (cut_ok t.rank few u) (invert_ok t.rank few s)) (cut_ok t.rank few (inverted_cut t.rank few k s x u)) g.trivial in
      let whole : act_all t (invert_cut t.rank k x) ≡ t = trivial-acts t is few (invert_cut t.rank k x) g.of_rank g.trivial in
      let last : tuple_length (act (act (act t (invert_move t.rank k)) (does t.rank x)) (invert_move t.rank k)) ≡ tuple_length (act (act t (invert_move t.rank k)) (does t.rank x)) =
      turn_keeps t.rank (act (act t (invert_move t.rank k)) (does t.rank x)) (invert k) (act-cyclic (act t (invert_move t.rank k)) (does t.rank x)) s in
      same_tests (keeps t (invert_cut t.rank k x)) (kept t (mapped_cut t.rank (invert_letter k) x))
      (λ h. kept_from (mapped_cut t.rank (invert_letter k) x) (ap tuple_length (sym third) ∙ stays-head _ _ _ _ (stays-tail _ _ _ _ (stays-tail _ _ _ _ h))))
      (λ h. stays-make _ _ _ _ (turn_keeps t.rank t (invert k) is.cyclic s) (stays-make _ _ _ _ (sym last ∙ (ap tuple_length third ∙ kept_of (mapped_cut t.rank (invert_letter k) x) h))
      (stays-make _ _ _ _ (ap tuple_length third ∙ kept_of (mapped_cut t.rank (invert_letter k) x) h) (stays-make _ _ _ _ (ap tuple_length whole) (stays-end _ _)))))

  -- ---- fifth
  pub change_keeps : (x : Cut) (b : ℕ) → Cuts t.rank x → b < 2 * t.rank → is_other_mult x b ≡ true → keeps t (change_mult t.rank x b) ≡ (kept t x && kept t (record { mult = b; set = x.set }))
  change_keeps x b u l h =
      let e : Exchanges t.rank few x b = exchanges t.rank few x b u l h in
      let g : Good t.rank few (change_mult t.rank x b) = change-good t.rank few x b u l h in
      let c : Carried t.rank x.mult b (carry_kinds x.mult b) = carried t.rank x.mult b u.of_rank l e.off in
      let w : IsCut t.rank b (turned_set x.mult x.set) = turned_cut t.rank x.mult b x.set u e.cut e.other in
      let hp : AreMovesOfRank t.rank (carry_word t.rank x.mult b) = carry-of_rank t.rank x.mult b few u.of_rank l e.off in
      let s : TupleData = act (act t (does t.rank x)) (cut_move t.rank b (turned_set x.mult x.set)) in
      let cs : All (λ q. cyclic_word q ≡ q) (act (act t (does t.rank x)) (cut_move t.rank b (turned_set x.mult x.set))).words = act-cyclic (act t (does t.rank x)) (cut_move t.rank b (turned_set x.mult x.set)) in
      let same : tuple_length (act_all (act (act t (does t.rank x)) (cut_move t.rank b (turned_set x.mult x.set))) (carry_word t.rank x.mult b)) ≡ tuple_length (act (act t (does t.rank x)) (cut_move t.rank b (turned_set x.mult x.set))) =
      turns_keep t.rank (act (act t (does t.rank x)) (cut_move t.rank b (turned_set x.mult x.set))) (carry_kinds x.mult b) cs c.turns in
      let near : act_all (act (act t (does t.rank x)) (cut_move t.rank b (turned_set x.mult x.set))) (carry_word t.rank x.mult b) ≡ act t (cut_move t.rank b x.set) =
      before_last t is few (does t.rank x ∷ cut_move t.rank b (turned_set x.mult x.set) ∷ carry_word t.rank x.mult b) (cut_move t.rank b x.set)
      (more_of_rank t.rank (does t.rank x) (cut_move t.rank b (turned_set x.mult x.set) ∷ carry_word t.rank x.mult b) (cut_ok t.rank few u) (more_of_rank t.rank (cut_move t.rank b (turned_set x.mult x.set)) (carry_word t.rank x.mult b) (cut_ok t.rank few w) hp))
      (cut_ok t.rank few e.cut) g.trivial in
      same_tests (keeps t (change_mult t.rank x b)) (kept t x && kept t (record { mult = b; set = x.set }))
      (λ k. both_of (kept t x) (kept t (record { mult = b; set = x.set })) (kept_from x (stays-head _ _ _ _ k))
      (kept_from (record { mult = b; set = x.set }) (ap tuple_length (sym near) ∙ (same ∙ stays-head _ _ _ _ (stays-tail _ _ _ _ k)))))
      (λ k.
      let kb : Keeps t is few (record { mult = b; set = x.set }) = kept_of (record { mult = b; set = x.set }) (and_second (kept t x) (kept t (record { mult = b; set = x.set })) k) in
      let ks : tuple_length (act (act t (does t.rank x)) (cut_move t.rank b (turned_set x.mult x.set))) ≡ tuple_length t = sym same ∙ (ap tuple_length near ∙ kb) in
      stays-make _ _ _ _ (kept_of x (and_first (kept t x) (kept t (record { mult = b; set = x.set })) k)) (stays-make _ _ _ _ ks
      (turns_stay (tuple_length t) t.rank (act (act t (does t.rank x)) (cut_move t.rank b (turned_set x.mult x.set))) (carry_kinds x.mult b) (undoes t.rank (record { mult = b; set = x.set }) ∷ []) cs c.turns ks
      (stays-make _ _ _ _ (ap (λ (q : TupleData). tuple_length (act q (cut_back t.rank b x.set))) near ∙ ap tuple_length (back_again t is few (cut_move t.rank b x.set) (cut_ok t.rank few e.cut))) (stays-end _ _)))))

  -- ---- eighth
  pub complement_keeps : (x : Cut) → Cuts t.rank x → keeps t (complement_cut t.rank x) ≡ kept t x
  complement_keeps x u =
      let g : Good t.rank few (complement_cut t.rank x) = complement-good t.rank few x u in
      let o : Move = does t.rank (record { mult = inverse_letter x.mult; set = others t.rank x.set }) in
      let first : act t (does t.rank (inner t.rank x.mult)) ≡ t = inner-fixes t x.mult is in
      let second : act (act t (does t.rank (inner t.rank x.mult))) (cut_move t.rank (inverse_letter x.mult) (others t.rank x.set)) ≡ act t (does t.rank x) =
      before_last t is few (does t.rank (inner t.rank x.mult) ∷ cut_move t.rank (inverse_letter x.mult) (others t.rank x.set) ∷ []) (does t.rank x)
      (two t.rank few (cut_ok t.rank few (inner-cut t.rank x.mult u.of_rank)) (cut_ok t.rank few (others-cut t.rank x.mult x.set u))) (cut_ok t.rank few u) g.trivial in
      let whole : act_all t (complement_cut t.rank x) ≡ t = trivial-acts t is few (complement_cut t.rank x) g.of_rank g.trivial in
      same_tests (keeps t (complement_cut t.rank x)) (kept t x)
      (λ h. kept_from x (ap tuple_length (sym second) ∙ stays-head _ _ _ _ (stays-tail _ _ _ _ h)))
      (λ h. stays-make _ _ _ _ (ap tuple_length first) (stays-make _ _ _ _ (ap tuple_length second ∙ kept_of x h) (stays-make _ _ _ _ (ap tuple_length whole) (stays-end _ _))))

  -- ---- ninth
  pub inner_keeps : (x : Cut) (b : ℕ) → Cuts t.rank x → b < 2 * t.rank → can_conjugate_inner x b ≡ true → keeps t (conjugate_inner t.rank x b) ≡ kept t (back x)
  inner_keeps x b u l h = same_tests (keeps t (conjugate_inner t.rank x b)) (kept t (back x))
      (λ k. kept_from (back x) (stays-head _ _ _ _ k))
      (λ k. elim (cases_Bool (in_set x.set b)) [
        | inl e ↦ subst (λ (c : Bool). keeps t (undoes t.rank x ∷ does t.rank (inner t.rank b) ∷ does t.rank x ∷ cond c (undoes t.rank (inner t.rank x.mult) ∷ undoes t.rank (inner t.rank b) ∷ []) (undoes t.rank (inner t.rank b) ∷ [])) ≡ true) (sym e)
            (front (undoes t.rank (inner t.rank x.mult) ∷ undoes t.rank (inner t.rank b) ∷ []) (kept_of (back x) k)
            (stays-make _ _ _ _ (ap tuple_length (fixed x.mult u.of_rank)) (subst (λ (s : TupleData). stays (tuple_length t) s (undoes t.rank (inner t.rank b) ∷ []) ≡ true) (sym (fixed x.mult u.of_rank)) (stays-make _ _ _ _ (ap tuple_length (fixed b l)) (stays-end _ _)))))
        | inr e ↦ subst (λ (c : Bool). keeps t (undoes t.rank x ∷ does t.rank (inner t.rank b) ∷ does t.rank x ∷ cond c (undoes t.rank (inner t.rank x.mult) ∷ undoes t.rank (inner t.rank b) ∷ []) (undoes t.rank (inner t.rank b) ∷ [])) ≡ true) (sym e)
            (front (undoes t.rank (inner t.rank b) ∷ []) (kept_of (back x) k) (stays-make _ _ _ _ (ap tuple_length (fixed b l)) (stays-end _ _)))
      ])
    where
      fixed : (a : ℕ) → a < 2 * t.rank → act t (undoes t.rank (inner t.rank a)) ≡ t
      fixed a la = ap (λ (s : TupleData). act s (undoes t.rank (inner t.rank a))) (sym (inner-fixes t a is)) ∙ back_again t is few (does t.rank (inner t.rank a)) (cut_ok t.rank few (inner-cut t.rank a la))

      front : (rest : List Move) → Keeps t is few (back x) → stays (tuple_length t) t rest ≡ true → keeps t (undoes t.rank x ∷ does t.rank (inner t.rank b) ∷ does t.rank x ∷ rest) ≡ true
      front rest k r =
          let ns : IsTuple (act t (undoes t.rank x)) = kept_tuple t is few (undoes t.rank x) (back_ok t.rank few u) k in
          let same : act (act t (undoes t.rank x)) (does t.rank (inner t.rank b)) ≡ act t (undoes t.rank x) = inner-fixes (act t (undoes t.rank x)) b ns in
          let home : act (act t (undoes t.rank x)) (does t.rank x) ≡ t =
          subst (λ (m : Move). act (act t (undoes t.rank x)) m ≡ t) (inverse_move-inverse_move (does t.rank x) (cut_ok t.rank few u).valid) (back_again t is few (undoes t.rank x) (back_ok t.rank few u)) in
          let whole : act (act (act t (undoes t.rank x)) (does t.rank (inner t.rank b))) (does t.rank x) ≡ t = ap (λ (s : TupleData). act s (does t.rank x)) same ∙ home in
          stays-make _ _ _ _ k (stays-make _ _ _ _ (ap tuple_length same ∙ k) (stays-make _ _ _ _ (ap tuple_length whole) (subst (λ (s : TupleData). stays (tuple_length t) s rest ≡ true) (sym whole) r)))
