-- Which lists of the families keep the length of a tuple at each move: those where one or two cuts of the tuple keep it.
use Rattle.std.proofs.Common.{◌≡◌, ◌≢◌, ℕ, ◌+◌, ◌≤◌, ◌==◌, Bool, true, false, List, [], ◌∷◌, refl, sym, ap, ap₂, inl, inr, ◌∙◌, arith, eq-eqb, append_assoc, append-nil}
use Rattle.std.proofs.lemmas.Bool.{cases_eq, cases_Bool, eqb-true, true≢false, and_from}
use Rattle.std.specs.Int.{bit_at}
use Rattle.std.specs.Prelude.{◌&&◌, ◌++◌}
use Rattle.wh_words.specs.Letters.{inverse_letter}
use Rattle.wh_words.specs.LetterSets.{in_set}
use Rattle.wh_words.specs.Tuples.{TupleData, IsTuple, tuple_length}
use Rattle.wh_words.specs.Moves.{Move, IsCut, cut_move, turned_set, inverse_move}
use Rattle.wh_words.specs.Moves.Kind.{cut}
use Rattle.wh_words.specs.Action.{act, act_all}
use Rattle.wh_words.specs.Edges.{cap, deg}
use Rattle.wh_words.proofs.FreeReduction.{inverse-inverse}
use Rattle.wh_words.proofs.ImageLetters.{act_tuple}
use Rattle.wh_moves.proofs.InverseMoves.{undone, inverse_is_kind, turned_other}
use Rattle.wh_graph.specs.Laws.{is_of}
use Rattle.wh_graph.proofs.SetNumbers.{holds, omits}
use Rattle.wh_graph.proofs.Lengths.{length_law}
use Rattle.wh_peak.specs.Equivalence.{IsMoveOfRank, AreMovesOfRank}
use Rattle.wh_peak.specs.Relations.{IsTrivial, cut_back}
use Rattle.wh_peak.proofs.Actions.{acts, AreCyclic}
use Rattle.wh_peak.proofs.CutSubstitutions.{cutting}
use Rattle.wh_peak.proofs.DisjointCuts.{is-neither}
use Rattle.wh_peak.proofs.KindLists.{act_kinds, act_kinds-steps}
use Rattle.wh_peak.proofs.Lengths as lengths
use Rattle.wh_peak.proofs.PairLengths.{pair_law}
use Rattle.wh_peak.proofs.MovesOfRank.{move_of_rank, none_of_rank, more_of_rank, both_of_rank, cyclic_words}
use Rattle.wh_peak.proofs.SameComposites.{AgreeOn, agree-of, agree-sym, agree-then, agree-before, agree-after, move-redone, inverse_move-of_rank, composite-same, same-composite}
use Rattle.wh_peak.proofs.AlikeMoves.{one_composite_acts_alike}
use Rattle.wh_relators.specs.Cuts.{Cut, does}
use Rattle.wh_relators.specs.Instances.{stays}
use Rattle.wh_relators.proofs.Lists.{and_first, and_second}
use Rattle.wh_relators.proofs.FamilyRelations.{holds-of, other_letter, apart-left}

-- ---- lists that stay
pub stays-end : (l : ℕ) (t : TupleData) → stays l t [] ≡ true
unfolding stays
stays-end l t = refl

pub stays-make : (l : ℕ) (t : TupleData) (m : Move) (ms : List Move) → tuple_length (act t m) ≡ l → stays l (act t m) ms ≡ true → stays l t (m ∷ ms) ≡ true
unfolding stays
stays-make l t m ms e h = and_from (tuple_length (act t m) == l) (stays l (act t m) ms) (eq-eqb (tuple_length (act t m)) l e) h

pub stays-head : (l : ℕ) (t : TupleData) (m : Move) (ms : List Move) → stays l t (m ∷ ms) ≡ true → tuple_length (act t m) ≡ l
unfolding stays
stays-head l t m ms h = eqb-true (tuple_length (act t m)) l (and_first (tuple_length (act t m) == l) (stays l (act t m) ms) h)

pub stays-tail : (l : ℕ) (t : TupleData) (m : Move) (ms : List Move) → stays l t (m ∷ ms) ≡ true → stays l (act t m) ms ≡ true
unfolding stays
stays-tail l t m ms h = and_second (tuple_length (act t m) == l) (stays l (act t m) ms) h

-- ---- what lists lead to
-- A list whose composite with an inverse behind it is the identity is the move.
pub undo_last : (n : ℕ) (ms : List Move) (c : Move) → AreMovesOfRank n ms → IsMoveOfRank n c → AgreeOn n (ms ++ inverse_move c ∷ []) [] → AgreeOn n ms (c ∷ [])
undo_last n ms c hms hc h =
    let one : AreMovesOfRank n (c ∷ []) = more_of_rank n c [] hc (none_of_rank n) in
    let two : AreMovesOfRank n (inverse_move c ∷ c ∷ []) = more_of_rank n (inverse_move c) (c ∷ []) (inverse_move-of_rank n c hc) one in
    agree-then n ms (ms ++ (inverse_move c ∷ c ∷ [])) (c ∷ [])
    (agree-sym n (ms ++ (inverse_move c ∷ c ∷ [])) ms
    (agree-then n (ms ++ (inverse_move c ∷ c ∷ [])) (ms ++ []) ms (agree-before n ms (inverse_move c ∷ c ∷ []) [] hms two (move-redone n c hc)) (agree-of n (ms ++ []) ms (append-nil ms))))
    (agree-then n (ms ++ (inverse_move c ∷ c ∷ [])) ((ms ++ inverse_move c ∷ []) ++ c ∷ []) (c ∷ [])
    (agree-of n (ms ++ (inverse_move c ∷ c ∷ [])) ((ms ++ inverse_move c ∷ []) ++ c ∷ []) (sym (append_assoc ms (inverse_move c ∷ []) (c ∷ []))))
    (agree-after n (ms ++ inverse_move c ∷ []) [] (c ∷ []) (none_of_rank n) one h))

-- How long a tuple is after two cuts with disjoint sets, at most.
pub pair_most : (t : TupleData) → IsTuple t → (a b A B : ℕ) → IsCut t.rank a A → IsCut t.rank b B → ((x : ℕ) → (in_set A x && in_set B x) ≡ false) → in_set B a ≡ false → in_set B (inverse_letter a) ≡ false → is_of a b ≡ false →
    tuple_length (act (act t (cut_move t.rank a A)) (cut_move t.rank b B)) + (deg a t + deg b t) ≤ tuple_length t + (cap (in_set A) t + cap (in_set B) t)
pair_most t is a b A B u v apart ka k ab =
    let c : AreCyclic t.words = cyclic_words t is in
    let e : act_kinds (cut a A ∷ cut b B ∷ []) t.words ≡ acts (cutting a (in_set A) ∷ cutting b (in_set B) ∷ []) t.words = act_kinds-steps t.rank (cut a A ∷ cut b B ∷ []) (u, (v, tt)) t.words in
    let law : lengths.len (acts (cutting a (in_set A) ∷ cutting b (in_set B) ∷ []) t.words) + (lengths.deg a t.words + lengths.deg b t.words) ≤ lengths.len t.words + (lengths.cap (in_set A) t.words + lengths.cap (in_set B) t.words) =
    pair_law a b (in_set A) (in_set B) (record { has = holds A a u.holds; lacks = omits A (inverse_letter a) u.omits }) (record { has = holds B b v.holds; lacks = omits B (inverse_letter b) v.omits }) apart ka k ab t.words c in
    let after : tuple_length (act (act t (cut_move t.rank a A)) (cut_move t.rank b B)) ≡ lengths.len (acts (cutting a (in_set A) ∷ cutting b (in_set B) ∷ []) t.words) =
    sym (lengths.len-is (act_kinds (cut a A ∷ cut b B ∷ []) t.words)) ∙ ap lengths.len e in
    let before : lengths.len t.words ≡ tuple_length t = lengths.len-is t.words in
    omega (arith, law, after, before, lengths.cap-is (in_set A) t, lengths.cap-is (in_set B) t, lengths.deg-is a t c, lengths.deg-is b t c)

module _ (t : TupleData) (is : IsTuple t) (few : t.rank ≤ 26) where
  abbrev n : ℕ
  n = t.rank

  abbrev L : ℕ
  L = tuple_length t

  -- A cut keeps the length of the tuple.
  abbrev pub Keeps : Cut → Type 0
  Keeps x = tuple_length (act t (does t.rank x)) ≡ tuple_length t

  pub trivial-acts : (ms : List Move) → AreMovesOfRank t.rank ms → IsTrivial t.rank ms → act_all t ms ≡ t
  trivial-acts ms h e = one_composite_acts_alike t ms [] is h (none_of_rank t.rank) e

  pub before_last : (ms : List Move) (c : Move) → AreMovesOfRank t.rank ms → IsMoveOfRank t.rank c → IsTrivial t.rank (ms ++ inverse_move c ∷ []) → act_all t ms ≡ act t c
  before_last ms c hms hc e =
      let whole : AreMovesOfRank t.rank (ms ++ inverse_move c ∷ []) = both_of_rank t.rank ms (inverse_move c ∷ []) hms (more_of_rank t.rank (inverse_move c) [] (inverse_move-of_rank t.rank c hc) (none_of_rank t.rank)) in
      one_composite_acts_alike t ms (c ∷ []) is hms (more_of_rank t.rank c [] hc (none_of_rank t.rank))
      (composite-same t.rank ms (c ∷ []) (undo_last t.rank ms c hms hc (same-composite t.rank (ms ++ inverse_move c ∷ []) [] whole (none_of_rank t.rank) e)))

  -- A tuple of the length, after moves of the rank.
  pub kept_tuple : (m : Move) → IsMoveOfRank t.rank m → tuple_length (act t m) ≡ tuple_length t → IsTuple (act t m)
  kept_tuple m h e = act_tuple t m is h.valid (sym h.rank) (omega (arith, e, is.short))

  pub back_again : (m : Move) → IsMoveOfRank t.rank m → act (act t m) (inverse_move m) ≡ t
  back_again m h = undone t m is h.valid

-- ---- two disjoint cuts
pub turned_in : (a A x : ℕ) → bit_at A a ≡ 1 → bit_at A (inverse_letter a) ≡ 0 → x ≢ inverse_letter a → in_set A x ≡ false → in_set (turned_set a A) x ≡ false
turned_in a A x h o ne k = ap (λ b. b == 1) (turned_other a A h o x (λ e. true≢false (sym (holds A a h) ∙ (ap (in_set A) (sym e) ∙ k))) ne) ∙ k

-- A set without one that is disjoint from another, turned, is still disjoint from it.
pub turned_apart : {n : ℕ} (a A B : ℕ) → IsCut n a A → ((x : ℕ) → (in_set A x && in_set B x) ≡ false) → in_set B (inverse_letter a) ≡ false → (x : ℕ) → (in_set (turned_set a A) x && in_set B x) ≡ false
turned_apart {n} a A B u apart k x = elim (cases_eq x (inverse_letter a)) [
  | inl e ↦ ap (λ y. in_set (turned_set a A) x && in_set B y) e ∙ (ap (λ b. in_set (turned_set a A) x && b) k ∙ nothing (in_set (turned_set a A) x))
  | inr ne ↦ elim (cases_Bool (in_set A x)) [
    | inl h ↦ ap (λ b. in_set (turned_set a A) x && b) (sym (ap (λ b. b && in_set B x) h) ∙ apart x) ∙ nothing (in_set (turned_set a A) x)
    | inr h ↦ ap (λ b. b && in_set B x) (turned_in a A x u.holds u.omits ne h)
  ]
]
  where
    nothing : (b : Bool) → (b && false) ≡ false
    nothing true = refl
    nothing false = refl

module _ (a b A B : ℕ) (apart : (x : ℕ) → (in_set A x && in_set B x) ≡ false) (ha : in_set A a ≡ true) (hb : in_set B b ≡ true) where
  pub not_in_second : in_set B a ≡ false
  not_in_second = elim (cases_Bool (in_set B a)) [
    | inl e ↦ absurd (true≢false (sym (ap₂ (λ s t. s && t) ha e) ∙ apart a))
    | inr e ↦ e
  ]

  pub unlike : b ≢ a
  unlike e = other_letter A a b ha (apart-left A B b apart hb) (sym e)

-- Where two disjoint cuts keep the length, so do they one after the other.
pub pair_keeps : (t : TupleData) → IsTuple t → t.rank ≤ 26 → (a b A B : ℕ) → IsCut t.rank a A → IsCut t.rank b B → ((x : ℕ) → (in_set A x && in_set B x) ≡ false) → in_set B (inverse_letter a) ≡ false →
    tuple_length (act t (cut_move t.rank a A)) ≡ tuple_length t → tuple_length (act t (cut_move t.rank b B)) ≡ tuple_length t → tuple_length (act (act t (cut_move t.rank a A)) (cut_move t.rank b B)) ≡ tuple_length t
pair_keeps t is few a b A B u v apart k kx ky =
    let x : Move = cut_move t.rank a A in
    let hx : IsMoveOfRank t.rank (cut_move t.rank a A) = move_of_rank t.rank (cut a A) few u in
    let s : TupleData = act t (cut_move t.rank a A) in
    let ns : IsTuple (act t (cut_move t.rank a A)) = kept_tuple t is few (cut_move t.rank a A) hx kx in
    let ba : b ≢ a = unlike a b A B apart (holds-of u) (holds-of v) in
    let ba' : b ≢ inverse_letter a = λ e. other_letter B b (inverse_letter a) (holds-of v) k e in
    let na : in_set B a ≡ false = not_in_second a b A B apart (holds-of u) (holds-of v) in
    let w : IsCut t.rank (inverse_letter a) (turned_set a A) = inverse_is_kind t.rank (cut a A) u in
    let back : act (act t (cut_move t.rank a A)) (cut_back t.rank a A) ≡ t = back_again t is few (cut_move t.rank a A) hx in
    let most : tuple_length (act (act t (cut_move t.rank a A)) (cut_move t.rank b B)) + (deg a t + deg b t) ≤ tuple_length t + (cap (in_set A) t + cap (in_set B) t) =
    pair_most t is a b A B u v apart na k (is-neither a b ba ba') in
    let least : tuple_length (act (act (act t (cut_move t.rank a A)) (cut_back t.rank a A)) (cut_move t.rank b B)) + (deg (inverse_letter a) (act t (cut_move t.rank a A)) + deg b (act t (cut_move t.rank a A)))
    ≤ tuple_length (act t (cut_move t.rank a A)) + (cap (in_set (turned_set a A)) (act t (cut_move t.rank a A)) + cap (in_set B) (act t (cut_move t.rank a A))) =
    pair_most (act t (cut_move t.rank a A)) ns (inverse_letter a) b (turned_set a A) B w v (turned_apart a A B u apart k) k (ap (in_set B) (inverse-inverse a) ∙ na) (is-neither (inverse_letter a) b ba' (λ e. ba (e ∙ inverse-inverse a))) in
    omega (
      arith,
      most,
      least,
      kx,
      ky,
      length_law t a A is u,
      length_law t b B is v,
      length_law (act t (cut_move t.rank a A)) (inverse_letter a) (turned_set a A) ns w,
      length_law (act t (cut_move t.rank a A)) b B ns v,
      ap (λ (z : TupleData). tuple_length (act z (cut_move t.rank b B))) back,
      ap tuple_length back,
    )
