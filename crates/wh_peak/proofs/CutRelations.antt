-- The relations of cuts.
use Rattle.std.proofs.Common.{◌≡◌, ◌≢◌, ℕ, ◌*◌, ◌<◌, List, [], ◌∷◌, refl, sym, ap, ◌∙◌}
use Rattle.std.proofs.lemmas.Bool.{true≢false}
use Rattle.std.proofs.lemmas.List.Elements.{All-head, All-tail}
use Rattle.std.specs.Prelude.{Bool, false, not, eqb, ◌==◌, ◌&&◌, ◌||◌, ◌++◌}
use Rattle.std.specs.List.{flat_map}
use Rattle.wh_words.specs.Letters.{inverse_letter}
use Rattle.wh_words.specs.LetterSets.{in_set}
use Rattle.wh_words.specs.Words.{IsOfRank}
use Rattle.wh_words.specs.Moves.{IsCut, Move, cut_move, turned_set, inverse_kind}
use Rattle.wh_words.specs.Images.{swap_letter, invert_letter}
use Rattle.wh_words.proofs.FreeReduction.{inverse-inverse}
use Rattle.wh_moves.proofs.InverseMoves.{turned_other, turned_within, inverse_is_kind}
use Rattle.wh_graph.specs.Laws.{is_of}
use Rattle.wh_graph.proofs.SetNumbers.{holds, omits}
use Rattle.wh_words.proofs.LetterMaps.{inverse_below}
use Rattle.wh_composites.proofs.SignedPerms.{substitute_all-then}
use Rattle.wh_peak.specs.Equivalence.{AreMovesOfRank}
use Rattle.wh_words.specs.Composites.{substitute_all}
use Rattle.wh_words.specs.Moves.Kind.{cut}
use Rattle.wh_peak.proofs.CutForms as cuts_of
use Rattle.wh_composites.specs.SignedPerms.{carry}
use Rattle.wh_peak.specs.Relations.{swap_move, invert_move, MapsLetters, cut_back, CutsCancel, CutsUnite, CutsCommute, CutsConjugate, CutsExchange, CutsComplement, InnerIsKept, InnerIsMoved, SwapsTakeCuts, InversionsTakeCuts}
use Rattle.wh_peak.proofs.FreeWords.{run, Same, same_red, Same-append}
use Rattle.wh_peak.proofs.Substitutions.{substitute_by}
use Rattle.wh_peak.proofs.EqualComposites.{Agree, Agree-sym, Inverse-append, move_left}
use Rattle.wh_peak.proofs.CutForms.{union_without, turned}
use Rattle.wh_peak.proofs.OtherGenerators.{is-left}
use Rattle.wh_peak.proofs.CutSubstitutions.{cutting, letters}
use Rattle.wh_peak.proofs.CutsOfOneGenerator.{undo, undo-inverse, merge}
use Rattle.wh_peak.proofs.InnerCuts.{inner_move, inner_kept, inner_joined, complement}
use Rattle.wh_peak.proofs.CutPairs.{commuting, conjugating}
use Rattle.wh_peak.proofs.CarriedLetters.{carrying, letters-inverse, exchanging}
use Rattle.wh_peak.proofs.DisjointCuts.{apart-right, apart-left, clash, is-neither}
use Rattle.wh_words.proofs.LetterMaps.{swap_back, invert_back}
use Rattle.wh_peak.proofs.KindSteps.{turned_is, substitute-back}
use Rattle.wh_peak.proofs.MapsPastCuts.{past}
use Rattle.wh_peak.proofs.MovesOfRank.{move_of_rank, none_of_rank, more_of_rank}
use Rattle.wh_peak.proofs.SameComposites.{substitute-append, substitute-nothing, substitute-of_rank, substitute-same, composite-same}
use Rattle.wh_peak.proofs.Represented.{AllDo, done, trivial-by, does-cut, does-back, does-swap, does-invert, own-letters, cancelled}
use Rattle.wh_peak.proofs.KindLists.{one_letter}
use Rattle.wh_words.proofs.Mapped.{swap_turns, invert_turns}

-- A cut by its test.
cut_of : (n a set : ℕ) → IsCut n a set → cuts_of.IsCut a (in_set set)
cut_of n a set v = record { has = holds set a v.holds; lacks = omits set (inverse_letter a) v.omits }

pub cuts_cancel : CutsCancel
cuts_cancel n a A v =
    trivial-by n (cut_move n a A ∷ cut_back n a A ∷ []) (cutting a (in_set A) ∷ undo a (in_set A) ∷ [])
    (does-cut n a A (in_set A) v (own-letters n A), (does-back n a A (in_set A) v (own-letters n A), tt)) (undo-inverse a (in_set A)).right

pub cuts_unite : CutsUnite
cuts_unite n a A B C u v w meet h =
    let U : ℕ → Bool = λ x. in_set A x || in_set B x in
    trivial-by n (cut_move n a A ∷ cut_move n a B ∷ cut_back n a C ∷ []) (cutting a (in_set A) ∷ cutting a (in_set B) ∷ undo a U ∷ [])
    (does-cut n a A (in_set A) u (own-letters n A), (does-cut n a B (in_set B) v (own-letters n B), (does-back n a C U w h, tt)))
    (cancelled (cutting a (in_set A) ∷ cutting a (in_set B) ∷ []) (cutting a U ∷ []) (undo a U ∷ [])
    (merge a (in_set A) (in_set B) U (λ y e. meet y ∙ is-left a y e) (λ y e. refl)) (undo-inverse a U))

module _ (n a b A B : ℕ) (u : IsCut n a A) (v : IsCut n b B) (apart : (x : ℕ) → (in_set A x && in_set B x) ≡ false) where
  B-a : in_set B a ≡ false
  B-a = apart-right (in_set A) (in_set B) apart a (cut_of n a A u).has

  A-b : in_set A b ≡ false
  A-b = apart-left (in_set A) (in_set B) apart b (cut_of n b B v).has

  off : in_set B (inverse_letter a) ≡ false → is_of a b ≡ false
  off k = is-neither a b (λ e. clash (in_set A) a b (cut_of n a A u).has A-b (sym e)) (λ e. clash (in_set B) b (inverse_letter a) (cut_of n b B v).has k e)

pub cuts_commute : CutsCommute
cuts_commute n a b A B u v apart k k1 =
    trivial-by n (cut_move n a A ∷ cut_move n b B ∷ cut_back n a A ∷ cut_back n b B ∷ []) (cutting a (in_set A) ∷ cutting b (in_set B) ∷ undo a (in_set A) ∷ undo b (in_set B) ∷ [])
    (does-cut n a A (in_set A) u (own-letters n A), (does-cut n b B (in_set B) v (own-letters n B), (does-back n a A (in_set A) u (own-letters n A), (does-back n b B (in_set B) v (own-letters n B), tt))))
    (cancelled (cutting a (in_set A) ∷ cutting b (in_set B) ∷ []) (cutting b (in_set B) ∷ cutting a (in_set A) ∷ []) (undo a (in_set A) ∷ undo b (in_set B) ∷ [])
    (commuting a b (in_set A) (in_set B) (cut_of n a A u) (cut_of n b B v) apart (B-a n a b A B u v apart) k (A-b n a b A B u v apart) k1)
    (Inverse-append (cutting a (in_set A) ∷ []) (undo a (in_set A) ∷ []) (cutting b (in_set B) ∷ []) (undo b (in_set B) ∷ []) (undo-inverse a (in_set A)) (undo-inverse b (in_set B))))

pub cuts_conjugate : CutsConjugate
unfolding union_without
cuts_conjugate n a b A B C u v w apart k k1 h =
    let e : Agree (cutting a (in_set A) ∷ cutting b (in_set B) ∷ []) (cutting b (in_set B) ∷ cutting a (union_without (in_set A) (in_set B) b) ∷ []) =
    conjugating a b (in_set A) (in_set B) (cut_of n a A u) (cut_of n b B v) apart (B-a n a b A B u v apart) k (A-b n a b A B u v apart) k1 (off n a b A B u v apart k) in
    let f : Agree (undo b (in_set B) ∷ cutting a (in_set A) ∷ cutting b (in_set B) ∷ []) (cutting a (union_without (in_set A) (in_set B) b) ∷ []) =
    Agree-sym (cutting a (union_without (in_set A) (in_set B) b) ∷ []) (undo b (in_set B) ∷ cutting a (in_set A) ∷ cutting b (in_set B) ∷ [])
    (move_left (cutting b (in_set B) ∷ []) (undo b (in_set B) ∷ []) (cutting a (union_without (in_set A) (in_set B) b) ∷ []) (cutting a (in_set A) ∷ cutting b (in_set B) ∷ []) (undo-inverse b (in_set B))
    (Agree-sym (cutting a (in_set A) ∷ cutting b (in_set B) ∷ []) (cutting b (in_set B) ∷ cutting a (union_without (in_set A) (in_set B) b) ∷ []) e)) in
    trivial-by n (cut_back n b B ∷ cut_move n a A ∷ cut_move n b B ∷ cut_back n a C ∷ [])
    (undo b (in_set B) ∷ cutting a (in_set A) ∷ cutting b (in_set B) ∷ undo a (union_without (in_set A) (in_set B) b) ∷ [])
    (does-back n b B (in_set B) v (own-letters n B), (does-cut n a A (in_set A) u (own-letters n A), (does-cut n b B (in_set B) v (own-letters n B), (does-back n a C (union_without (in_set A) (in_set B) b) w (united h), tt))))
    (cancelled (undo b (in_set B) ∷ cutting a (in_set A) ∷ cutting b (in_set B) ∷ []) (cutting a (union_without (in_set A) (in_set B) b) ∷ []) (undo a (union_without (in_set A) (in_set B) b) ∷ []) f
    (undo-inverse a (union_without (in_set A) (in_set B) b)))
  where
    united : ((x : ℕ) → x < 2 * n → in_set C x ≡ ((in_set A x || in_set B x) && not (x == b))) → (x : ℕ) → x < 2 * n → in_set C x ≡ union_without (in_set A) (in_set B) b x
    united h x l = h x l

pub cuts_complement : CutsComplement
cuts_complement n a A B I u v w hB hI =
    trivial-by n (cut_move n a I ∷ cut_move n (inverse_letter a) B ∷ cut_back n a A ∷ []) (inner_move a ∷ cutting (inverse_letter a) (λ y. not (in_set A y)) ∷ undo a (in_set A) ∷ [])
    (does-cut n a I (λ y. not (eqb y (inverse_letter a))) w hI, (does-cut n (inverse_letter a) B (λ y. not (in_set A y)) v hB, (does-back n a A (in_set A) u (own-letters n A), tt)))
    (cancelled (inner_move a ∷ cutting (inverse_letter a) (λ y. not (in_set A y)) ∷ []) (cutting a (in_set A) ∷ []) (undo a (in_set A) ∷ []) (complement a (in_set A)) (undo-inverse a (in_set A)))

-- ---- inner automorphisms
off_by : (a b : ℕ) (A : ℕ → Bool) → cuts_of.IsCut a A → A b ≡ false → A (inverse_letter b) ≡ false → is_of a b ≡ false
off_by a b A c h k = is-neither a b (λ e. clash A a b c.has h (sym e)) (λ e. clash A a (inverse_letter b) c.has k (sym (inverse-inverse a) ∙ ap inverse_letter (sym e)))

pub inner_is_kept : InnerIsKept
inner_is_kept n a b A J u v hJ h k =
    trivial-by n (cut_back n a A ∷ cut_move n b J ∷ cut_move n a A ∷ cut_back n b J ∷ []) (undo a (in_set A) ∷ inner_move b ∷ cutting a (in_set A) ∷ undo b (λ y. not (eqb y (inverse_letter b))) ∷ [])
    (does-back n a A (in_set A) u (own-letters n A), (does-cut n b J (λ y. not (eqb y (inverse_letter b))) v hJ, (does-cut n a A (in_set A) u (own-letters n A), (does-back n b J (λ y. not (eqb y (inverse_letter b))) v hJ, tt))))
    (cancelled (undo a (in_set A) ∷ inner_move b ∷ cutting a (in_set A) ∷ []) (inner_move b ∷ []) (undo b (λ y. not (eqb y (inverse_letter b))) ∷ [])
    (inner_kept a b (in_set A) (off_by a b (in_set A) (cut_of n a A u) h k) h k) (undo-inverse b (λ y. not (eqb y (inverse_letter b)))))

pub inner_is_moved : InnerIsMoved
inner_is_moved n a b A I J u w v hI hJ ne h k =
    let off : is_of a b ≡ false = is-neither a b ne (λ e. clash (in_set A) b (inverse_letter a) h (cut_of n a A u).lacks e) in
    trivial-by n (cut_back n a A ∷ cut_move n b J ∷ cut_move n a A ∷ cut_back n a I ∷ cut_back n b J ∷ [])
    (undo a (in_set A) ∷ inner_move b ∷ cutting a (in_set A) ∷ undo a (λ y. not (eqb y (inverse_letter a))) ∷ undo b (λ y. not (eqb y (inverse_letter b))) ∷ []) (
      does-back n a A (in_set A) u (own-letters n A),
      (
        does-cut n b J (λ y. not (eqb y (inverse_letter b))) v hJ,
        (
          does-cut n a A (in_set A) u (own-letters n A),
          (does-back n a I (λ y. not (eqb y (inverse_letter a))) w hI, (does-back n b J (λ y. not (eqb y (inverse_letter b))) v hJ, tt)),
        ),
      ),
    )
    (cancelled (undo a (in_set A) ∷ inner_move b ∷ cutting a (in_set A) ∷ []) (inner_move b ∷ inner_move a ∷ []) (undo a (λ y. not (eqb y (inverse_letter a))) ∷ undo b (λ y. not (eqb y (inverse_letter b))) ∷ [])
    (inner_joined a b (in_set A) off h k)
    (Inverse-append (inner_move a ∷ []) (undo a (λ y. not (eqb y (inverse_letter a))) ∷ []) (inner_move b ∷ []) (undo b (λ y. not (eqb y (inverse_letter b))) ∷ [])
    (undo-inverse a (λ y. not (eqb y (inverse_letter a)))) (undo-inverse b (λ y. not (eqb y (inverse_letter b))))))

-- ---- swaps and inversions
-- A map of letters that is its own inverse.
module _ (p : ℕ → ℕ) (h : (y : ℕ) → p (inverse_letter y) ≡ inverse_letter (p y)) (twice : (y : ℕ) → p (p y) ≡ y) (a : ℕ) (A : ℕ → Bool) (c : cuts_of.IsCut a A) where
  taken : Agree (letters p h ∷ cutting a A ∷ letters p h ∷ undo (p a) (λ x. A (p x)) ∷ []) []
  taken =
      cancelled (letters p h ∷ cutting a A ∷ letters p h ∷ []) (cutting (p a) (λ x. A (p x)) ∷ []) (undo (p a) (λ x. A (p x)) ∷ [])
      (Agree-sym (cutting (p a) (λ x. A (p x)) ∷ []) (letters p h ∷ cutting a A ∷ letters p h ∷ [])
      (move_left (letters p h ∷ []) (letters p h ∷ []) (cutting (p a) (λ x. A (p x)) ∷ []) (cutting a A ∷ letters p h ∷ []) (letters-inverse p p h h twice twice)
      (Agree-sym (cutting a A ∷ letters p h ∷ []) (letters p h ∷ cutting (p a) (λ x. A (p x)) ∷ []) (past p p h h twice twice a A c))))
      (undo-inverse (p a) (λ x. A (p x)))

pub swaps_take_cuts : SwapsTakeCuts
swaps_take_cuts n k a A B s u v h =
    trivial-by n (swap_move n k ∷ cut_move n a A ∷ swap_move n k ∷ cut_back n (swap_letter k a) B ∷ [])
    (letters (swap_letter k) (swap_turns k s.0) ∷ cutting a (in_set A) ∷ letters (swap_letter k) (swap_turns k s.0) ∷ undo (swap_letter k a) (λ x. in_set A (swap_letter k x)) ∷ [])
    (does-swap n k s, (does-cut n a A (in_set A) u (own-letters n A), (does-swap n k s, (does-back n (swap_letter k a) B (λ x. in_set A (swap_letter k x)) v h, tt))))
    (taken (swap_letter k) (swap_turns k s.0) (swap_back k s.0) a (in_set A) (cut_of n a A u))

pub inversions_take_cuts : InversionsTakeCuts
inversions_take_cuts n k a A B s u v h =
    trivial-by n (invert_move n k ∷ cut_move n a A ∷ invert_move n k ∷ cut_back n (invert_letter k a) B ∷ [])
    (letters (invert_letter k) (invert_turns k) ∷ cutting a (in_set A) ∷ letters (invert_letter k) (invert_turns k) ∷ undo (invert_letter k a) (λ x. in_set A (invert_letter k x)) ∷ [])
    (does-invert n k s, (does-cut n a A (in_set A) u (own-letters n A), (does-invert n k s, (does-back n (invert_letter k a) B (λ x. in_set A (invert_letter k x)) v h, tt))))
    (taken (invert_letter k) (invert_turns k) (invert_back k) a (in_set A) (cut_of n a A u))

-- ---- two multipliers
pub turned_cut : (n a b A : ℕ) → IsCut n a A → IsCut n b A → b ≢ a → IsCut n b (turned_set a A)
turned_cut n a b A u v ne = record {
  of_rank = v.of_rank;
  within = turned_within a A u.holds u.omits (2 * n) u.within (inverse_below n a u.of_rank);
  holds = turned_other a A u.holds u.omits b ne (λ e. absurd (true≢false (sym (holds A b v.holds) ∙ (ap (in_set A) e ∙ omits A (inverse_letter a) u.omits)))) ∙ v.holds;
  omits = turned_other a A u.holds u.omits (inverse_letter b)
      (λ e. absurd (true≢false (sym (holds A a u.holds) ∙ (ap (in_set A) (sym e) ∙ omits A (inverse_letter b) v.omits))))
      (λ e. ne (sym (inverse-inverse b) ∙ (ap inverse_letter e ∙ inverse-inverse a))) ∙ v.omits;
}

-- A list that maps letters maps words.
pub mapped-word : (n : ℕ) (ps : List Move) (p : ℕ → ℕ) → MapsLetters n ps p → (w : List ℕ) → IsOfRank n w → Same (substitute_all ps w) (flat_map (λ x. p x ∷ []) w)
mapped-word n ps p h [] r s = ap (λ v. run v s) (substitute-nothing ps)
mapped-word n ps p h (x ∷ w) r s =
    ap (λ v. run v s) (substitute-append ps (x ∷ []) w)
    ∙ Same-append (substitute_all ps (x ∷ [])) (p x ∷ []) (substitute_all ps w) (flat_map (λ y. p y ∷ []) w)
    (same_red (substitute_all ps (x ∷ [])) (p x ∷ []) (h x (All-head (λ y. y < 2 * n) x w r))) (mapped-word n ps p h w (All-tail (λ y. y < 2 * n) x w r)) s

pub cuts_exchange : CutsExchange
unfolding substitute_by
cuts_exchange n a b A ps low u v ne hp maps =
    let ab : is_of a b ≡ false = is-neither a b ne (λ e. clash (in_set A) b (inverse_letter a) (holds A b v.holds) (omits A (inverse_letter a) u.omits) e) in
    let t : IsCut n b (turned_set a A) = turned_cut n a b A u v ne in
    let first : AllDo n (cut_move n a A ∷ cut_move n b (turned_set a A) ∷ []) (cutting a (in_set A) ∷ cutting b (turned a (in_set A)) ∷ []) =
    (does-cut n a A (in_set A) u (own-letters n A), (does-cut n b (turned_set a A) (turned a (in_set A)) t (λ x l. turned_is a A u.holds u.omits x), tt)) in
    let e : Agree (cutting a (in_set A) ∷ cutting b (turned a (in_set A)) ∷ carrying a b ab ∷ undo b (in_set A) ∷ []) [] =
    cancelled (cutting a (in_set A) ∷ cutting b (turned a (in_set A)) ∷ carrying a b ab ∷ []) (cutting b (in_set A) ∷ []) (undo b (in_set A) ∷ [])
    (exchanging a b (in_set A) (cut_of n a A u) (holds A b v.holds) (omits A (inverse_letter b) v.omits) ab) (undo-inverse b (in_set A)) in
    let htwo : AreMovesOfRank n (cut_move n a A ∷ cut_move n b (turned_set a A) ∷ []) =
    more_of_rank n (cut_move n a A) (cut_move n b (turned_set a A) ∷ []) (move_of_rank n (cut a A) low u) (more_of_rank n (cut_move n b (turned_set a A)) [] (move_of_rank n (cut b (turned_set a A)) low t) (none_of_rank n)) in
    let hlast : AreMovesOfRank n (cut_back n b A ∷ []) = more_of_rank n (cut_back n b A) [] (move_of_rank n (inverse_kind (cut b A)) low (inverse_is_kind n (cut b A) v)) (none_of_rank n) in
    composite-same n (cut_move n a A ∷ cut_move n b (turned_set a A) ∷ (ps ++ cut_back n b A ∷ [])) []
    (λ x l r. whole ab first hlast htwo x l r ∙ e x r)
  where
    whole : (ab : is_of a b ≡ false) → AllDo n (cut_move n a A ∷ cut_move n b (turned_set a A) ∷ []) (cutting a (in_set A) ∷ cutting b (turned a (in_set A)) ∷ []) →
        AreMovesOfRank n (cut_back n b A ∷ []) → AreMovesOfRank n (cut_move n a A ∷ cut_move n b (turned_set a A) ∷ []) → (x : ℕ) → x < 2 * n →
        Same (substitute_all (cut_move n a A ∷ cut_move n b (turned_set a A) ∷ (ps ++ cut_back n b A ∷ [])) (x ∷ [])) (substitute_by (cutting a (in_set A) ∷ cutting b (turned a (in_set A)) ∷ carrying a b ab ∷ undo b (in_set A) ∷ []) (x ∷ []))
    whole ab first hlast htwo x l r =
        let w : List ℕ = substitute_all (cut_move n a A ∷ cut_move n b (turned_set a A) ∷ []) (x ∷ []) in
        let hw : IsOfRank n (substitute_all (cut_move n a A ∷ cut_move n b (turned_set a A) ∷ []) (x ∷ [])) =
        substitute-of_rank n (cut_move n a A ∷ cut_move n b (turned_set a A) ∷ []) htwo (x ∷ []) (one_letter n x l) in
        ap (λ v. run v r) (substitute_all-then ps (cut_back n b A ∷ []) w)
        ∙ (substitute-same n (cut_back n b A ∷ []) hlast (substitute_all ps w) (flat_map (λ y. carry a b y ∷ []) w) (mapped-word n ps (carry a b) maps w hw) r
        ∙ ap (λ z. run z r) (substitute-back n (cut b A) v (flat_map (λ y. carry a b y ∷ []) w)
        ∙ ap (λ z. flat_map (undo b (in_set A)).of (flat_map (λ y. carry a b y ∷ []) z)) (done n (cut_move n a A ∷ cut_move n b (turned_set a A) ∷ []) (cutting a (in_set A) ∷ cutting b (turned a (in_set A)) ∷ []) first (x ∷ [])
        (one_letter n x l))))
