-- Alike lists of moves: an equivalence that goes with lists before and behind, and alike lists act alike.
use Rattle.std.proofs.Common.{◌≡◌, ℕ, ◌*◌, ◌/◌, ◌<◌, List, [], ◌∷◌, sym, ap, ap₂, subst, inl, inr, ◌∙◌, arith, append_assoc, append-nil}
use Rattle.std.proofs.lemmas.List.Elements.{All-nil, All-head, All-tail, All-append}
use Rattle.std.specs.Prelude.{◌++◌}
use Rattle.wh_words.specs.Letters.{inverse_letter}
use Rattle.wh_words.specs.Words.{free_reduction, IsOfRank}
use Rattle.wh_words.specs.Moves.{Move}
use Rattle.wh_words.specs.MoveLists.{inverse_list}
use Rattle.wh_words.proofs.LetterMaps.{inverse_below}
use Rattle.wh_peak.specs.Equivalence.{AreMovesOfRank}
use Rattle.wh_words.specs.Composites.{substitute_all}
use Rattle.wh_peak.specs.Automorphisms.{AreAlike}
use Rattle.wh_peak.specs.Laws.{AlikeIsReflexive, AlikeIsSymmetric, AlikeIsTransitive, AlikeBetweenLists, AlikeListsActAlike, OneCompositeActsAlike, InverseListsCancel}
use Rattle.wh_peak.proofs.FreeWords.{ReducedWord, run, run-append, Same, inverse_of, red_of, same_red, run-inverse_right, inverse_of-left, inverse_of-append, inverse_of-inverse_of, inverse_of-same}
use Rattle.wh_peak.proofs.ActionFacts.{normal, normal-same, normal-conjugate}
use Rattle.wh_peak.proofs.KindLists.{substitute_kinds, map_rank, act_kinds-are, one_letter}
use Rattle.wh_peak.proofs.MovesOfRank.{kinds, are_kinds, acted, substituted, cyclic_words, words_of_rank}
use Rattle.wh_peak.proofs.AlikeLists.{three_parts}
use Rattle.wh_composites.proofs.SignedPerms.{substitute_all-then}
use Rattle.wh_peak.proofs.ConjugatingWords.{inverse_word-is, IsConjugate, conjugate_back}
use Rattle.wh_peak.proofs.SameComposites.{substitute-append, substitute-nothing, substitute-of_rank, substitute-same, substitute-inverse_of, AgreeOn, agree-refl, list-undone, list-redone, composite-same, same-composite}
use Rattle.wh_graph.proofs.ComplementCuts.{generator_of}

pub inverse_of-of_rank : (n : ℕ) (w : List ℕ) → IsOfRank n w → IsOfRank n (inverse_of w)
unfolding inverse_of
inverse_of-of_rank n [] h = All-nil (λ y. y < 2 * n)
inverse_of-of_rank n (x ∷ w) h =
    All-append (λ y. y < 2 * n) (inverse_of w) (inverse_letter x ∷ []) (inverse_of-of_rank n w (All-tail (λ y. y < 2 * n) x w h))
    (one_letter n (inverse_letter x) (inverse_below n x (All-head (λ y. y < 2 * n) x w h)))

-- ---- conjugate images of all letters
pub conjugate-words : (n : ℕ) (ms ns : List Move) (c : IsConjugate n ms ns) (w : List ℕ) → IsOfRank n w → Same (substitute_all ms w) (inverse_of c.by ++ (substitute_all ns w ++ c.by))
conjugate-words n ms ns c [] h r =
    ap (λ v. run v r) (substitute-nothing ms) ∙ (sym (inverse_of-left c.by r) ∙ ap (λ v. run (inverse_of c.by ++ (v ++ c.by)) r) (sym (substitute-nothing ns)))
conjugate-words n ms ns c (x ∷ w) h r =
    let s : ReducedWord = run (inverse_of c.by) (run (substitute_all ns w) (run c.by r)) in
    ap (λ v. run v r) (substitute-append ms (x ∷ []) w)
    ∙ (run-append (substitute_all ms (x ∷ [])) (substitute_all ms w) r
    ∙ (ap (run (substitute_all ms (x ∷ []))) (conjugate-words n ms ns c w (All-tail (λ y. y < 2 * n) x w h) r ∙ three_parts c.by (substitute_all ns w) r)
    ∙ (c.at x (All-head (λ y. y < 2 * n) x w h) s
    ∙ (three_parts c.by (substitute_all ns (x ∷ [])) s
    ∙ (ap (λ v. run (inverse_of c.by) (run (substitute_all ns (x ∷ [])) v)) (run-inverse_right c.by (run (substitute_all ns w) (run c.by r)))
    ∙ (ap (run (inverse_of c.by)) (sym (run-append (substitute_all ns (x ∷ [])) (substitute_all ns w) (run c.by r)) ∙ ap (λ v. run v (run c.by r)) (sym (substitute-append ns (x ∷ []) w)))
    ∙ sym (three_parts c.by (substitute_all ns (x ∷ w)) r)))))))

pub conjugate-same : (n : ℕ) (ms ns : List Move) → AgreeOn n ms ns → IsConjugate n ms ns
unfolding inverse_of run
conjugate-same n ms ns h = record { by = []; of_rank = All-nil (λ y. y < 2 * n); at = λ x l r. h x l r ∙ ap (λ v. run v r) (sym (append-nil (substitute_all ns (x ∷ [])))) }

pub conjugate-sym : (n : ℕ) (ms ns : List Move) → IsConjugate n ms ns → IsConjugate n ns ms
conjugate-sym n ms ns c = record {
  by = inverse_of c.by;
  of_rank = inverse_of-of_rank n c.by c.of_rank;
  at = λ x l. conjugate_back (substitute_all ns (x ∷ [])) (substitute_all ms (x ∷ [])) c.by (c.at x l);
}

pub conjugate-then : (n : ℕ) (ms ns qs : List Move) → IsConjugate n ms ns → IsConjugate n ns qs → IsConjugate n ms qs
conjugate-then n ms ns qs c d = record {
  by = d.by ++ c.by;
  of_rank = All-append (λ y. y < 2 * n) d.by c.by d.of_rank c.of_rank;
  at = λ x l r.
      c.at x l r ∙ (three_parts c.by (substitute_all ns (x ∷ [])) r
      ∙ (ap (run (inverse_of c.by)) (d.at x l (run c.by r) ∙ three_parts d.by (substitute_all qs (x ∷ [])) (run c.by r))
      ∙ (sym (run-append (inverse_of c.by) (inverse_of d.by) (run (substitute_all qs (x ∷ [])) (run d.by (run c.by r))))
      ∙ (ap (λ v. run v (run (substitute_all qs (x ∷ [])) (run d.by (run c.by r)))) (sym (inverse_of-append d.by c.by))
      ∙ (ap (λ v. run (inverse_of (d.by ++ c.by)) (run (substitute_all qs (x ∷ [])) v)) (sym (run-append d.by c.by r))
      ∙ sym (three_parts (d.by ++ c.by) (substitute_all qs (x ∷ [])) r))))));
}

pub conjugate-before : (n : ℕ) (ps ms ns : List Move) → AreMovesOfRank n ps → IsConjugate n ms ns → IsConjugate n (ps ++ ms) (ps ++ ns)
conjugate-before n ps ms ns h c = record {
  by = c.by;
  of_rank = c.of_rank;
  at = λ x l r.
      ap (λ w. run w r) (substitute_all-then ps ms (x ∷ []))
      ∙ (conjugate-words n ms ns c (substitute_all ps (x ∷ [])) (substitute-of_rank n ps h (x ∷ []) (one_letter n x l)) r
      ∙ ap (λ w. run (inverse_of c.by ++ (w ++ c.by)) r) (sym (substitute_all-then ps ns (x ∷ []))));
}

pub conjugate-after : (n : ℕ) (ms ns ps : List Move) → AreMovesOfRank n ps → IsConjugate n ms ns → IsConjugate n (ms ++ ps) (ns ++ ps)
conjugate-after n ms ns ps h c = record {
  by = substitute_all ps c.by;
  of_rank = substitute-of_rank n ps h c.by c.of_rank;
  at = λ x l r.
      ap (λ w. run w r) (substitute_all-then ms ps (x ∷ []))
      ∙ (substitute-same n ps h (substitute_all ms (x ∷ [])) (inverse_of c.by ++ (substitute_all ns (x ∷ []) ++ c.by)) (c.at x l) r
      ∙ (ap (λ w. run w r) (substitute-append ps (inverse_of c.by) (substitute_all ns (x ∷ []) ++ c.by))
      ∙ (run-append (substitute_all ps (inverse_of c.by)) (substitute_all ps (substitute_all ns (x ∷ []) ++ c.by)) r
      ∙ (substitute-inverse_of n ps h c.by (run (substitute_all ps (substitute_all ns (x ∷ []) ++ c.by)) r)
      ∙ (ap (λ w. run (inverse_of (substitute_all ps c.by)) (run w r)) (substitute-append ps (substitute_all ns (x ∷ [])) c.by ∙ ap (λ w. w ++ substitute_all ps c.by) (sym (substitute_all-then ns ps (x ∷ []))))
      ∙ sym (run-append (inverse_of (substitute_all ps c.by)) (substitute_all (ns ++ ps) (x ∷ []) ++ substitute_all ps c.by) r))))));
}

-- ---- alike is conjugate
pub conjugate-alike : (n : ℕ) (ms ns : List Move) → IsConjugate n ms ns → AreAlike n ms ns
conjugate-alike n ms ns c = record {
  by = c.by;
  of_rank = c.of_rank;
  conjugates = λ g l.
      red_of (substitute_all ms (2 * g ∷ [])) (inverse_of c.by ++ (substitute_all ns (2 * g ∷ []) ++ c.by)) (c.at (2 * g) (omega arith))
      ∙ ap (λ v. free_reduction (v ++ (substitute_all ns (2 * g ∷ []) ++ c.by))) (sym (inverse_word-is c.by));
}

-- The images of inverses are conjugate where those of the letters are.
inverse_letter-conjugate : (n : ℕ) (ms ns : List Move) → AreMovesOfRank n ms → AreMovesOfRank n ns → (g : List ℕ) (y : ℕ) →
    Same (substitute_all ms (y ∷ [])) (inverse_of g ++ (substitute_all ns (y ∷ []) ++ g)) → Same (substitute_all ms (inverse_letter y ∷ [])) (inverse_of g ++ (substitute_all ns (inverse_letter y ∷ []) ++ g))
unfolding inverse_of
inverse_letter-conjugate n ms ns hm hn g y h r =
    substitute-inverse_of n ms hm (y ∷ []) r
    ∙ (inverse_of-same (substitute_all ms (y ∷ [])) (inverse_of g ++ (substitute_all ns (y ∷ []) ++ g)) h r
    ∙ (ap (λ v. run v r)
    (inverse_of-append (inverse_of g) (substitute_all ns (y ∷ []) ++ g)
    ∙ ap₂ (λ u v. u ++ v) (inverse_of-append (substitute_all ns (y ∷ [])) g) (inverse_of-inverse_of g)
    ∙ append_assoc (inverse_of g) (inverse_of (substitute_all ns (y ∷ []))) g)
    ∙ (three_parts g (inverse_of (substitute_all ns (y ∷ []))) r
    ∙ (ap (run (inverse_of g)) (sym (substitute-inverse_of n ns hn (y ∷ []) (run g r)))
    ∙ sym (three_parts g (substitute_all ns (inverse_letter y ∷ [])) r)))))

pub alike-conjugate : (n : ℕ) (ms ns : List Move) → AreMovesOfRank n ms → AreMovesOfRank n ns → AreAlike n ms ns → IsConjugate n ms ns
alike-conjugate n ms ns hm hn a = record { by = a.by; of_rank = a.of_rank; at = at }
  where
    even : (g : ℕ) → g < n → Same (substitute_all ms (2 * g ∷ [])) (inverse_of a.by ++ (substitute_all ns (2 * g ∷ []) ++ a.by))
    even g l = same_red (substitute_all ms (2 * g ∷ [])) (inverse_of a.by ++ (substitute_all ns (2 * g ∷ []) ++ a.by))
        (a.conjugates g l ∙ ap (λ v. free_reduction (v ++ (substitute_all ns (2 * g ∷ []) ++ a.by))) (inverse_word-is a.by))

    at : (x : ℕ) → x < 2 * n → Same (substitute_all ms (x ∷ [])) (inverse_of a.by ++ (substitute_all ns (x ∷ []) ++ a.by))
    at x l = elim (generator_of x) [
      | inl e ↦ subst (λ (y : ℕ). Same (substitute_all ms (y ∷ [])) (inverse_of a.by ++ (substitute_all ns (y ∷ []) ++ a.by))) (sym e) (even (x / 2) (omega arith))
      | inr e ↦ subst (λ (y : ℕ). Same (substitute_all ms (y ∷ [])) (inverse_of a.by ++ (substitute_all ns (y ∷ []) ++ a.by))) (sym e)
          (inverse_letter-conjugate n ms ns hm hn a.by (2 * (x / 2)) (even (x / 2) (omega arith)))
    ]

-- ---- laws
pub alike_reflexive : AlikeIsReflexive
alike_reflexive n ms = conjugate-alike n ms ms (conjugate-same n ms ms (agree-refl n ms))

pub alike_symmetric : AlikeIsSymmetric
alike_symmetric n ms ns hm hn a = conjugate-alike n ns ms (conjugate-sym n ms ns (alike-conjugate n ms ns hm hn a))

pub alike_transitive : AlikeIsTransitive
alike_transitive n ms ns qs hm hn hq a b = conjugate-alike n ms qs (conjugate-then n ms ns qs (alike-conjugate n ms ns hm hn a) (alike-conjugate n ns qs hn hq b))

pub alike_between : AlikeBetweenLists
alike_between n ps ms ns qs hp hm hn hq a =
    conjugate-alike n (ps ++ (ms ++ qs)) (ps ++ (ns ++ qs))
    (conjugate-before n ps (ms ++ qs) (ns ++ qs) hp (conjugate-after n ms ns qs hq (alike-conjugate n ms ns hm hn a)))

pub alike_act_alike : AlikeListsActAlike
alike_act_alike t ms ns is hm hn a =
    let c : IsConjugate t.rank ms ns = alike-conjugate t.rank ms ns hm hn a in
    acted t ms
    ∙ (ap (λ (u : List (List ℕ)). record { rank = t.rank; words = u })
    (act_kinds-are t.rank (kinds ms) (are_kinds t.rank ms hm) t.words (cyclic_words t is)
    ∙ (map_rank t.rank (λ w. normal (substitute_kinds (kinds ms) w)) (λ w. normal (substitute_kinds (kinds ns) w)) t.words (words_of_rank t is) (word c)
    ∙ sym (act_kinds-are t.rank (kinds ns) (are_kinds t.rank ns hn) t.words (cyclic_words t is))))
    ∙ sym (acted t ns))
  where
    word : (c : IsConjugate t.rank ms ns) (w : List ℕ) → IsOfRank t.rank w → normal (substitute_kinds (kinds ms) w) ≡ normal (substitute_kinds (kinds ns) w)
    word c w h =
        ap normal (sym (substituted ms w))
        ∙ (normal-same (substitute_all ms w) (inverse_of c.by ++ (substitute_all ns w ++ c.by)) (conjugate-words t.rank ms ns c w h)
        ∙ (normal-conjugate c.by (substitute_all ns w) ∙ ap normal (substituted ns w)))

pub one_composite_acts_alike : OneCompositeActsAlike
one_composite_acts_alike t ms ns is hm hn e =
    alike_act_alike t ms ns is hm hn (conjugate-alike t.rank ms ns (conjugate-same t.rank ms ns (same-composite t.rank ms ns hm hn e)))

pub inverse_lists_cancel : InverseListsCancel
inverse_lists_cancel n ms h =
    (composite-same n (ms ++ inverse_list ms) [] (list-undone n ms h), composite-same n (inverse_list ms ++ ms) [] (list-redone n ms h))
