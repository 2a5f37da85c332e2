-- A list of moves that is being straightened: what its way weighs, and that each step keeps what it does and lowers the weight.
use Rattle.std.proofs.Common.{◌≡◌, ℕ, zero, suc, ◌+◌, ◌-◌, ◌*◌, ◌^◌, ◌<◌, ◌≤◌, List, [], ◌∷◌, refl, sym, ap, subst, inl, inr, ◌∙◌, arith, append-nil, append_assoc, length, take, reverse, length-append}
use Rattle.std.specs.Prelude.{◌++◌}
use Rattle.std.proofs.lemmas.Bool.{cases_lt}
use Rattle.std.proofs.lemmas.List.{reverse-append, reverse-reverse}
use Rattle.std.proofs.lemmas.List.Elements.{All-head, All-tail}
use Rattle.std.proofs.Math.Nat.{one-le-pow, mul-le-mul_left}
use Rattle.wh_words.specs.Limits.{most_letters}
use Rattle.wh_words.specs.Tuples.{TupleData, Tuple, IsTuple, tuple_length}
use Rattle.wh_words.specs.Moves.{Move, IsMove, IsIdentityCut, inverse_move}
use Rattle.wh_words.specs.Action.{act, act_all}
use Rattle.wh_words.proofs.MoveLists.{act_all-append}
use Rattle.wh_moves.specs.Acts.{AreRoomy}
use Rattle.wh_moves.proofs.IdentityCuts.{identity_acts}
use Rattle.wh_moves.proofs.InverseMoves.{inverse_move-inverse_move, undone}
use Rattle.wh_peak.specs.Equivalence.{IsMoveOfRank, AreMovesOfRank}
use Rattle.wh_peak.specs.Automorphisms.{AreAlike}
use Rattle.wh_peak.specs.Straightness.{way_lengths, HasNoPeak, IsNoLonger, IsStraightened, IsLowered}
use Rattle.wh_straighten.specs.Straightening.{TurnsBack, GoesOn}
use Rattle.wh_peak.proofs.MovesOfRank.{none_of_rank, more_of_rank, both_of_rank, acted_tuple, act_all-rank}
use Rattle.wh_peak.proofs.AlikeMoves.{conjugate-same, conjugate-alike, alike_between, alike_reflexive, alike_transitive, alike_act_alike}
use Rattle.wh_peak.proofs.LevelLoops.{identity-same}
use Rattle.wh_peak.proofs.SameComposites.{agree-sym, move-redone}
use Rattle.wh_peak.proofs.StraightLengths.{weight, AllBelow, weight-append, lighter, straight}
use Rattle.wh_peak.proofs.Straightening.{below-append, below-parts}

-- Moves that are done, on whose way there is no peak, and moves to come: together they do what a list does.
pub record IsUnderWay (t : TupleData) (ms done todo : List Move) : Type 0 where
  pub of_rank : AreMovesOfRank t.rank (done ++ todo)
  pub alike : AreAlike t.rank (done ++ todo) ms
  pub no_longer : IsNoLonger t ms (done ++ todo)
  pub no_peak : HasNoPeak (way_lengths t done)

-- More than there are moves on a way round a peak.
abbrev pub base : ℕ → ℕ
base n = 2 * (n * n + n + 2) + 1

-- What a list weighs that is under way: its lengths, as powers, and the moves to come. It falls with each step, since the lengths within a way round a peak together weigh less than the peak.
abbrev pub burden : TupleData → List Move → List Move → ℕ
burden t done todo = (base t.rank + 1) * weight (base t.rank) (way_lengths t (done ++ todo)) + length todo

-- ---- lengths on a way
-- The lengths after each move of a list.
abbrev pub lengths_after : TupleData → List Move → List ℕ
lengths_after t [] = []
lengths_after t (m ∷ ms) = tuple_length (act t m) ∷ lengths_after (act t m) ms

lengths_after-append : (t : TupleData) (p q : List Move) → lengths_after t (p ++ q) ≡ lengths_after t p ++ lengths_after (act_all t p) q
lengths_after-append t [] q = refl
lengths_after-append t (m ∷ p) q = ap (λ ls. tuple_length (act t m) ∷ ls) (lengths_after-append (act t m) p q)

way-after : (t : TupleData) (ms : List Move) → way_lengths t ms ≡ tuple_length t ∷ lengths_after t ms
way-after t [] = refl
way-after t (m ∷ ms) = ap (λ ls. tuple_length t ∷ ls) (way-after (act t m) ms)

-- Those of a list in the middle of another.
lengths_within : (t : TupleData) (p x q : List Move) → lengths_after t (p ++ (x ++ q)) ≡ lengths_after t p ++ (lengths_after (act_all t p) x ++ lengths_after (act_all (act_all t p) x) q)
lengths_within t p x q = lengths_after-append t p (x ++ q) ∙ ap (λ ls. lengths_after t p ++ ls) (lengths_after-append (act_all t p) x q)

-- Bounds on the tuples on a way, place by place and as a list.
below_ways : (bound : ℕ) (t : TupleData) (ms : List Move) → ((k : ℕ) → k ≤ length ms → tuple_length (act_all t (take k ms)) ≤ bound) → AllBelow (suc bound) (lengths_after t ms)
below_ways bound t [] h = tt
below_ways bound t (m ∷ ms) h = (omega (arith, h 1 (omega arith)), below_ways bound (act t m) ms (λ k l. h (suc k) (omega (arith, l))))

ways_below : (bound : ℕ) (t : TupleData) (ms : List Move) → tuple_length t ≤ bound → AllBelow (suc bound) (lengths_after t ms) → (k : ℕ) → k ≤ length ms → tuple_length (act_all t (take k ms)) ≤ bound
ways_below bound t [] first b zero l = first
ways_below bound t [] first b (suc k) l = absurd (omega (arith, l))
ways_below bound t (m ∷ ms) first b zero l = first
ways_below bound t (m ∷ ms) first b (suc k) l = ways_below bound (act t m) ms (omega (arith, b.0)) b.1 k (omega (arith, l))

-- ---- another list in the middle
-- The one list may stand for the other from a tuple on: it is alike, leads to the same tuple, and meets no longer tuples after its moves.
record StandsFor (v : TupleData) (new old : List Move) : Type 0 where
  of_rank : AreMovesOfRank v.rank new
  alike : AreAlike v.rank new old
  leads : act_all v new ≡ act_all v old
  below : (M : ℕ) → tuple_length v < M → AllBelow M (lengths_after v old) → AllBelow M (lengths_after v new)

front_of_rank : (n : ℕ) (p q : List Move) → AreMovesOfRank n (p ++ q) → AreMovesOfRank n p
front_of_rank n [] q h = none_of_rank n
front_of_rank n (m ∷ p) q h = more_of_rank n m p (All-head (IsMoveOfRank n) m (p ++ q) h) (front_of_rank n p q (All-tail (IsMoveOfRank n) m (p ++ q) h))

rest_of_rank : (n : ℕ) (p q : List Move) → AreMovesOfRank n (p ++ q) → AreMovesOfRank n q
rest_of_rank n [] q h = h
rest_of_rank n (m ∷ p) q h = rest_of_rank n p q (All-tail (IsMoveOfRank n) m (p ++ q) h)

module _ (t : TupleData) (p new old q : List Move) where
  replaced-no_longer : StandsFor (act_all t p) new old → (ms : List Move) → IsNoLonger t ms (p ++ (old ++ q)) → IsNoLonger t ms (p ++ (new ++ q))
  replaced-no_longer s ms h bound b =
      let first : tuple_length t ≤ bound = h bound b 0 (omega arith) in
      let whole : AllBelow (suc bound) (lengths_after t p ++ (lengths_after (act_all t p) old ++ lengths_after (act_all (act_all t p) old) q)) =
      subst (AllBelow (suc bound)) (lengths_within t p old q) (below_ways bound t (p ++ (old ++ q)) (h bound b)) in
      let outer : AllBelow (suc bound) (lengths_after t p) × AllBelow (suc bound) (lengths_after (act_all t p) old ++ lengths_after (act_all (act_all t p) old) q) =
      below-parts (suc bound) (lengths_after t p) (lengths_after (act_all t p) old ++ lengths_after (act_all (act_all t p) old) q) whole in
      let inner : AllBelow (suc bound) (lengths_after (act_all t p) old) × AllBelow (suc bound) (lengths_after (act_all (act_all t p) old) q) =
      below-parts (suc bound) (lengths_after (act_all t p) old) (lengths_after (act_all (act_all t p) old) q) outer.1 in
      let at_p : tuple_length (act_all t p) < suc bound = end_below (suc bound) t p (omega (arith, first)) outer.0 in
      ways_below bound t (p ++ (new ++ q)) first
      (subst (AllBelow (suc bound)) (sym (lengths_within t p new q))
      (below-append (suc bound) (lengths_after t p) (lengths_after (act_all t p) new ++ lengths_after (act_all (act_all t p) new) q) outer.0
      (below-append (suc bound) (lengths_after (act_all t p) new) (lengths_after (act_all (act_all t p) new) q) (s.below (suc bound) at_p inner.0)
      (subst (λ (u : TupleData). AllBelow (suc bound) (lengths_after u q)) (sym s.leads) inner.1))))
    where
      end_below : (M : ℕ) (u : TupleData) (x : List Move) → tuple_length u < M → AllBelow M (lengths_after u x) → tuple_length (act_all u x) < M
      end_below M u [] l b = l
      end_below M u (m ∷ x) l b = end_below M (act u m) x b.0 b.1

  replaced-lighter : (K : ℕ) → StandsFor (act_all t p) new old → weight K (lengths_after (act_all t p) new) < weight K (lengths_after (act_all t p) old) →
      weight K (way_lengths t (p ++ (new ++ q))) < weight K (way_lengths t (p ++ (old ++ q)))
  unfolding weight
  replaced-lighter K s l =
      omega (
        arith,
        ap (weight K) (way-after t (p ++ (new ++ q))),
        ap (weight K) (way-after t (p ++ (old ++ q))),
        ap (weight K) (lengths_within t p new q),
        ap (weight K) (lengths_within t p old q),
        weight-append K (lengths_after t p) (lengths_after (act_all t p) new ++ lengths_after (act_all (act_all t p) new) q),
        weight-append K (lengths_after t p) (lengths_after (act_all t p) old ++ lengths_after (act_all (act_all t p) old) q),
        weight-append K (lengths_after (act_all t p) new) (lengths_after (act_all (act_all t p) new) q),
        weight-append K (lengths_after (act_all t p) old) (lengths_after (act_all (act_all t p) old) q),
        ap (λ (u : TupleData). weight K (lengths_after u q)) s.leads,
        l,
      )

-- ---- nothing in the place of an identity cut
identity_stands : (v : TupleData) (m : Move) → IsTuple v → IsIdentityCut m.kind → StandsFor v [] (m ∷ [])
identity_stands v m is h = record {
  of_rank = none_of_rank v.rank;
  alike = conjugate-alike v.rank [] (m ∷ []) (conjugate-same v.rank [] (m ∷ []) (agree-sym v.rank (m ∷ []) [] (identity-same v.rank m h)));
  leads = sym (identity_acts v m is h);
  below = λ M l b. tt;
}

-- ---- a way round a peak in its place
-- The lengths strictly between the ends.
abbrev between : TupleData → List Move → List ℕ
between t [] = []
between t (m ∷ []) = []
between t (m ∷ k ∷ ms) = tuple_length (act t m) ∷ between (act t m) (k ∷ ms)

between-few : (t : TupleData) (ms : List Move) → length (between t ms) ≤ length ms
between-few t [] = omega arith
between-few t (m ∷ []) = omega arith
between-few t (m ∷ k ∷ ms) = omega (arith, between-few (act t m) (k ∷ ms))

between-below : (L : ℕ) (t : TupleData) (ms : List Move) → ((k : ℕ) → 0 < k → k < length ms → tuple_length (act_all t (take k ms)) < L) → AllBelow L (between t ms)
between-below L t [] h = tt
between-below L t (m ∷ []) h = tt
between-below L t (m ∷ k ∷ ms) h = (h 1 (omega arith) (omega arith), between-below L (act t m) (k ∷ ms) (λ j a b. h (suc j) (omega (arith, a)) (omega (arith, b))))

between-weight : (K : ℕ) (t : TupleData) (ms : List Move) → weight K (lengths_after t ms) ≤ weight K (between t ms) + K ^ tuple_length (act_all t ms)
unfolding weight
between-weight K t [] = omega arith
between-weight K t (m ∷ []) = omega arith
between-weight K t (m ∷ k ∷ ms) = omega (arith, between-weight K (act t m) (k ∷ ms))

between-bound : (M L : ℕ) (t : TupleData) (ms : List Move) → L ≤ M → AllBelow L (between t ms) → tuple_length (act_all t ms) < M → AllBelow M (lengths_after t ms)
between-bound M L t [] l b e = tt
between-bound M L t (m ∷ []) l b e = (e, tt)
between-bound M L t (m ∷ k ∷ ms) l b e = (omega (arith, b.0, l), between-bound M L (act t m) (k ∷ ms) l b.1 e)

module _ (v : TupleData) (o m : Move) (round : List Move) (is : IsTuple v) (ho : IsMoveOfRank v.rank o) (low : IsLowered (act v o) (inverse_move o) m round) where
  behind : act (act v o) (inverse_move o) ≡ v
  behind = undone v o is ho.valid

  round-leads : act_all v round ≡ act_all v (o ∷ m ∷ [])
  round-leads = ap (λ (u : TupleData). act_all u round) (sym behind) ∙ low.leads

  round-between : AllBelow (tuple_length (act v o)) (between v round)
  round-between = between-below (tuple_length (act v o)) v round (λ k a b. omega (arith, ap (λ (u : TupleData). tuple_length (act_all u (take k round))) behind, low.lower k a b))

  round_stands : StandsFor v round (o ∷ m ∷ [])
  round_stands = record {
    of_rank = low.of_rank;
    alike = subst (λ (k : Move). AreAlike v.rank round (k ∷ m ∷ [])) (inverse_move-inverse_move o ho.valid) low.alike;
    leads = round-leads;
    below = λ M l b. between-bound M (tuple_length (act v o)) v round (omega (arith, b.0)) round-between (omega (arith, b.1.0, ap tuple_length round-leads));
  }

  round-lighter : (K : ℕ) → length round < K → weight K (lengths_after v round) < weight K (lengths_after v (o ∷ m ∷ []))
  unfolding weight
  round-lighter K few =
      omega (
        arith,
        between-weight K v round,
        lighter K (tuple_length (act v o)) (between v round) round-between (omega (arith, between-few v round, few)),
        ap (λ (u : TupleData). K ^ tuple_length u) round-leads,
      )

-- The empty way where the second move goes back on the first.
nothing_round : (top : TupleData) (m : Move) → IsMoveOfRank top.rank m → IsLowered top m m []
nothing_round top m h = record {
  of_rank = none_of_rank top.rank;
  alike = conjugate-alike top.rank [] (inverse_move m ∷ m ∷ []) (conjugate-same top.rank [] (inverse_move m ∷ m ∷ []) (agree-sym top.rank (inverse_move m ∷ m ∷ []) [] (move-redone top.rank m h)));
  leads = refl;
  lower = λ k a b. absurd (omega (arith, a, b));
}

pub empty_way : (top : TupleData) (l r : Move) (ms : List Move) → IsMove l → l.rank ≡ top.rank → l ≡ r → ms ≡ [] → IsLowered top l r ms
empty_way top l r ms valid rank e none =
    subst (IsLowered top l r) (sym none) (subst (λ (k : Move). IsLowered top l k []) e (nothing_round top l (record { valid = valid; rank = rank })))

-- ---- no peak
no_peak-front : (t : TupleData) (p q : List Move) → HasNoPeak (tuple_length t ∷ lengths_after t (p ++ q)) → HasNoPeak (tuple_length t ∷ lengths_after t p)
no_peak-front t [] q h = tt
no_peak-front t (m ∷ []) q h = tt
no_peak-front t (m ∷ k ∷ p) q h = (h.0, no_peak-front (act t m) (k ∷ p) q h.1)

no_peak-more : (t : TupleData) (p : List Move) (o m : Move) → HasNoPeak (tuple_length t ∷ lengths_after t (p ++ o ∷ [])) →
    (let v : TupleData = act_all t p in HasNoPeak (tuple_length v ∷ tuple_length (act v o) ∷ tuple_length (act (act v o) m) ∷ [])) → HasNoPeak (tuple_length t ∷ lengths_after t (p ++ o ∷ m ∷ []))
no_peak-more t [] o m h n = n
no_peak-more t (f ∷ []) o m h n = (h.0, n)
no_peak-more t (f ∷ g ∷ p) o m h n = (h.0, no_peak-more (act t f) (g ∷ p) o m h.1 n)

flat_or_not : (x y z : ℕ) → ((x ≤ y) → (z ≤ y) → x + z < y + y → ⊥) → (x ≤ y) → (z ≤ y) → (x ≡ y) × (z ≡ y)
flat_or_not x y z h a b = elim (cases_lt (x + z) (y + y)) [
  | inl c ↦ absurd (h a b c)
  | inr c ↦ (omega arith, omega arith)
]

-- The last move of a list, where there is one.
data Ends (l : List Move) : Type 0 where
  none : l ≡ [] → Ends l
  at : (front : List Move) (last : Move) → l ≡ front ++ last ∷ [] → Ends l

ends : (l : List Move) → Ends l
ends [] = none refl
ends (m ∷ l) = later m l (ends l)
  where
    later : (m : Move) (l : List Move) → Ends l → Ends (m ∷ l)
    later m l (none e) = at [] m (ap (λ (q : List Move). m ∷ q) e)
    later m l (at front last e) = at (m ∷ front) last (ap (λ (q : List Move). m ∷ q) e)

take-front : (p q : List Move) → take (length p) (p ++ q) ≡ p
take-front [] q = refl
take-front (m ∷ p) q = ap (λ (l : List Move). m ∷ l) (take-front p q)

without_last : (front : List Move) (last : Move) (l : List Move) → l ≡ front ++ last ∷ [] → take (length l - 1) l ≡ front
without_last front last l e =
    let n : length l - 1 ≡ length front = omega (arith, ap length e, length-append front (last ∷ [])) in
    ap (λ (k : ℕ). take k l) n ∙ (ap (take (length front)) e ∙ take-front front (last ∷ []))

-- ---- the steps
falls : (B a b l k : ℕ) → a < b → l ≤ k + B → (B + 1) * a + l < (B + 1) * b + k
falls B a b l k less few = (let c : (B + 1) * (a + 1) ≤ (B + 1) * b = mul-le-mul_left (B + 1) (omega (arith, less)) in omega (arith, c, few))

abbrev fits : TupleData → List Move → Type 0
fits t ms = (k : ℕ) → k ≤ length ms → tuple_length (act_all t (take k ms)) ≤ most_letters

pub started : (t : TupleData) (ms : List Move) → AreMovesOfRank t.rank ms → IsUnderWay t ms [] ms
started t ms h = record { of_rank = h; alike = alike_reflexive t.rank ms; no_longer = λ bound b. b; no_peak = tt }

module _ (t : TupleData) (ms : List Move) (is : IsTuple t) (hm : AreMovesOfRank t.rank ms) (short : fits t ms) where
  -- What has been done leads to a tuple.
  part_stands : (p q : List Move) → AreMovesOfRank t.rank (p ++ q) → IsNoLonger t ms (p ++ q) → IsTuple (act_all t p)
  part_stands p q r b =
      acted_tuple t p is (front_of_rank t.rank p q r)
      (omega (arith, b most_letters short (length p) (omega (arith, length-append p q)), ap (λ (l : List Move). tuple_length (act_all t l)) (take-front p q)))

  pub stands : (done todo : List Move) → IsUnderWay t ms done todo → IsTuple (act_all t done)
  stands done todo w = part_stands done todo w.of_rank w.no_longer

  -- Another list in the middle.
  replaced : (p new old q done : List Move) → StandsFor (act_all t p) new old → HasNoPeak (way_lengths t done) → AreMovesOfRank t.rank (p ++ (old ++ q)) → AreAlike t.rank (p ++ (old ++ q)) ms → IsNoLonger t ms (p ++ (old ++ q)) →
      (todo : List Move) → done ++ todo ≡ p ++ (new ++ q) → IsUnderWay t ms done todo
  replaced p new old q done s n r a b todo e =
      let same : (act_all t p).rank ≡ t.rank = act_all-rank t p in
      let hp : AreMovesOfRank t.rank p = front_of_rank t.rank p (old ++ q) r in
      let hr : AreMovesOfRank t.rank (old ++ q) = rest_of_rank t.rank p (old ++ q) r in
      let ho : AreMovesOfRank t.rank old = front_of_rank t.rank old q hr in
      let hq : AreMovesOfRank t.rank q = rest_of_rank t.rank old q hr in
      let hn : AreMovesOfRank t.rank new = subst (λ (n : ℕ). AreMovesOfRank n new) same s.of_rank in
      let an : AreAlike t.rank new old = subst (λ (n : ℕ). AreAlike n new old) same s.alike in
      let whole : AreMovesOfRank t.rank (p ++ (new ++ q)) = both_of_rank t.rank p (new ++ q) hp (both_of_rank t.rank new q hn hq) in
      let alike : AreAlike t.rank (p ++ (new ++ q)) ms =
      alike_transitive t.rank (p ++ (new ++ q)) (p ++ (old ++ q)) ms whole r hm (alike_between t.rank p new old q hp hn ho hq an) a in
      record {
        of_rank = subst (AreMovesOfRank t.rank) (sym e) whole;
        alike = subst (λ (l : List Move). AreAlike t.rank l ms) (sym e) alike;
        no_longer = subst (IsNoLonger t ms) (sym e) (replaced-no_longer t p new old q s ms b);
        no_peak = n;
      }

  -- An identity cut is left out.
  pub dropped : (done rest : List Move) (m : Move) → IsIdentityCut m.kind → IsUnderWay t ms done (m ∷ rest) → IsUnderWay t ms done rest × (burden t done rest < burden t done (m ∷ rest))
  unfolding weight
  dropped done rest m i w =
      let s : StandsFor (act_all t done) [] (m ∷ []) = identity_stands (act_all t done) m (stands done (m ∷ rest) w) i in
      let p : 1 ≤ base t.rank ^ tuple_length (act (act_all t done) m) = one-le-pow (tuple_length (act (act_all t done) m)) (base t.rank) (omega arith) in (
        replaced done [] (m ∷ []) rest done s w.no_peak w.of_rank w.alike w.no_longer rest refl,
        falls (base t.rank) (weight (base t.rank) (way_lengths t (done ++ rest))) (weight (base t.rank) (way_lengths t (done ++ m ∷ rest))) (length rest) (length (m ∷ rest))
            (replaced-lighter t done [] (m ∷ []) rest (base t.rank) s (omega (arith, p))) (omega arith),
      )

  -- A peak goes, or a move and the way back.
  pub turned : (front rest : List Move) (o m : Move) (round : List Move) → IsLowered (act (act_all t front) o) (inverse_move o) m round → length round < base t.rank → IsUnderWay t ms (front ++ o ∷ []) (m ∷ rest) →
      IsUnderWay t ms front (round ++ rest) × (burden t front (round ++ rest) < burden t (front ++ o ∷ []) (m ∷ rest))
  turned front rest o m round low few w =
      let e : (front ++ o ∷ []) ++ (m ∷ rest) ≡ front ++ (o ∷ m ∷ rest) = append_assoc front (o ∷ []) (m ∷ rest) in
      let r : AreMovesOfRank t.rank (front ++ (o ∷ m ∷ rest)) = subst (AreMovesOfRank t.rank) e w.of_rank in
      let v : IsTuple (act_all t front) = part_stands front (o ∷ m ∷ rest) r (subst (IsNoLonger t ms) e w.no_longer) in
      let ho : IsMoveOfRank t.rank o = All-head (IsMoveOfRank t.rank) o (m ∷ rest) (rest_of_rank t.rank front (o ∷ m ∷ rest) r) in
      let hv : IsMoveOfRank (act_all t front).rank o = subst (λ (n : ℕ). IsMoveOfRank n o) (sym (act_all-rank t front)) ho in
      let s : StandsFor (act_all t front) round (o ∷ m ∷ []) = round_stands (act_all t front) o m round v hv low in (
        replaced front round (o ∷ m ∷ []) rest front s
            (subst HasNoPeak (sym (way-after t front)) (no_peak-front t front (o ∷ []) (subst HasNoPeak (way-after t (front ++ o ∷ [])) w.no_peak)))
            r (subst (λ (l : List Move). AreAlike t.rank l ms) e w.alike) (subst (IsNoLonger t ms) e w.no_longer) (round ++ rest) refl,
        falls (base t.rank) (weight (base t.rank) (way_lengths t (front ++ (round ++ rest)))) (weight (base t.rank) (way_lengths t ((front ++ o ∷ []) ++ (m ∷ rest)))) (length (round ++ rest)) (length (m ∷ rest))
            (omega (
              arith,
              ap (λ (l : List Move). weight (base t.rank) (way_lengths t l)) e,
              replaced-lighter t front round (o ∷ m ∷ []) rest (base t.rank) s (round-lighter (act_all t front) o m round v hv low (base t.rank) few),
            ))
            (omega (arith, length-append round rest, few)),
      )

  -- A move is done where it makes no corner with the last.
  pub passed : (done rest : List Move) (m : Move) → GoesOn (act_all t done) done m → IsUnderWay t ms done (m ∷ rest) → IsUnderWay t ms (done ++ m ∷ []) rest × (burden t (done ++ m ∷ []) rest < burden t done (m ∷ rest))
  passed done rest m g w =
      let e : (done ++ m ∷ []) ++ rest ≡ done ++ (m ∷ rest) = append_assoc done (m ∷ []) rest in (
        record {
          of_rank = subst (AreMovesOfRank t.rank) (sym e) w.of_rank;
          alike = subst (λ (l : List Move). AreAlike t.rank l ms) (sym e) w.alike;
          no_longer = subst (IsNoLonger t ms) (sym e) w.no_longer;
          no_peak = subst HasNoPeak (sym (way-after t (done ++ m ∷ []))) (longer done (ends done) g w);
        },
        omega (arith, ap (λ (l : List Move). (base t.rank + 1) * weight (base t.rank) (way_lengths t l)) e),
      )
    where
      longer : (done : List Move) → Ends done → GoesOn (act_all t done) done m → IsUnderWay t ms done (m ∷ rest) → HasNoPeak (tuple_length t ∷ lengths_after t (done ++ m ∷ []))
      longer done (none e) g w = subst (λ (l : List Move). HasNoPeak (tuple_length t ∷ lengths_after t (l ++ m ∷ []))) (sym e) tt
      longer done (at front o e) g w =
          let r : AreMovesOfRank t.rank (front ++ (o ∷ m ∷ rest)) = subst (AreMovesOfRank t.rank) (ap (λ (l : List Move). l ++ (m ∷ rest)) e ∙ append_assoc front (o ∷ []) (m ∷ rest)) w.of_rank in
          let b : IsNoLonger t ms (front ++ (o ∷ m ∷ rest)) = subst (IsNoLonger t ms) (ap (λ (l : List Move). l ++ (m ∷ rest)) e ∙ append_assoc front (o ∷ []) (m ∷ rest)) w.no_longer in
          let ho : IsMove o = (All-head (IsMoveOfRank t.rank) o (m ∷ rest) (rest_of_rank t.rank front (o ∷ m ∷ rest) r)).valid in
          let top : act_all t done ≡ act (act_all t front) o = ap (act_all t) e ∙ act_all-append t front (o ∷ []) in
          let back : act (act_all t done) (inverse_move o) ≡ act_all t front = ap (λ (u : TupleData). act u (inverse_move o)) top ∙ undone (act_all t front) o (part_stands front (o ∷ m ∷ rest) r b) ho in
          subst (λ (l : List Move). HasNoPeak (tuple_length t ∷ lengths_after t l)) (sym (ap (λ (l : List Move). l ++ m ∷ []) e ∙ append_assoc front (o ∷ []) (m ∷ [])))
          (no_peak-more t front o m (subst (λ (l : List Move). HasNoPeak (tuple_length t ∷ lengths_after t l)) e (subst HasNoPeak (way-after t done) w.no_peak)) (
            flat_or_not (tuple_length (act_all t front)) (tuple_length (act (act_all t front) o)) (tuple_length (act (act (act_all t front) o) m)) (λ a b c. g front o e (inr (record {
              left = omega (arith, ap tuple_length back, ap tuple_length top, a);
              right = omega (arith, ap (λ (u : TupleData). tuple_length (act u m)) top, ap tuple_length top, b);
              falls = omega (arith, ap tuple_length back, ap (λ (u : TupleData). tuple_length (act u m)) top, ap tuple_length top, c);
            }))),
            tt,
          ))

  -- At the end the list is straight.
  pub arrived : (done : List Move) → IsUnderWay t ms done [] → IsStraightened t ms done
  arrived done w =
      let e : done ++ [] ≡ done = append-nil done in
      let r : AreMovesOfRank t.rank done = subst (AreMovesOfRank t.rank) e w.of_rank in
      let a : AreAlike t.rank done ms = subst (λ (l : List Move). AreAlike t.rank l ms) e w.alike in
      record {
        of_rank = r;
        alike = a;
        leads = alike_act_alike t done ms is r hm a;
        straight = straight (way_lengths t done) w.no_peak;
        no_longer = subst (IsNoLonger t ms) e w.no_longer;
      }

-- Nothing is to come.
pub none_left : (l : List Move) → length l ≡ 0 → reverse l ≡ []
none_left [] e = refl
none_left (m ∷ l) e = absurd (omega (arith, e))

-- ---- the steps of the code, whose moves to come stand last to first
unwound : (front : List Move) (m : Move) (l : List Move) → l ≡ front ++ m ∷ [] → reverse l ≡ m ∷ reverse front
unwound front m l e = ap reverse e ∙ reverse-append front (m ∷ [])

pub rooms_onward : (t : TupleData) (here spare next last : Tuple) → AreRoomy t here spare → AreRoomy here.plain next last → AreRoomy t next last
rooms_onward t here spare next last r s = record {
  rank = s.rank ∙ r.rank;
  count = s.count ∙ r.count;
  room = s.room;
  word_room = s.word_room ∙ r.count;
  spare_room = s.spare_room;
  spare_word_room = s.spare_word_room ∙ r.count;
}

module _ (t : TupleData) (ms : List Move) (is : IsTuple t) (hm : AreMovesOfRank t.rank ms) (short : fits t ms) (done old rest : List Move) (m : Move) (popped : old ≡ rest ++ m ∷ [])
    (here : TupleData) (at : here ≡ act_all t done) (w : IsUnderWay t ms done (reverse old)) where
  next_way : IsUnderWay t ms done (m ∷ reverse rest)
  next_way = subst (IsUnderWay t ms done) (unwound rest m old popped) w

  here_rank : here.rank ≡ t.rank
  here_rank = ap (λ (u : TupleData). u.rank) at ∙ act_all-rank t done

  next_is : IsMoveOfRank t.rank m
  next_is = All-head (IsMoveOfRank t.rank) m (reverse rest) (rest_of_rank t.rank done (m ∷ reverse rest) next_way.of_rank)

  pub next_rank : m.rank ≡ here.rank
  next_rank = next_is.rank ∙ sym here_rank

  after_next : act here m ≡ act_all t (done ++ m ∷ [])
  after_next = ap (λ (u : TupleData). act u m) at ∙ sym (act_all-append t done (m ∷ []))

  pub next_fits : tuple_length (act here m) ≤ most_letters
  next_fits =
      let e : done ++ (m ∷ reverse rest) ≡ (done ++ m ∷ []) ++ reverse rest = sym (append_assoc done (m ∷ []) (reverse rest)) in
      let v : IsTuple (act_all t (done ++ m ∷ [])) = part_stands t ms is hm short (done ++ m ∷ []) (reverse rest) (subst (AreMovesOfRank t.rank) e next_way.of_rank) (subst (IsNoLonger t ms) e next_way.no_longer) in
      omega (arith, ap tuple_length after_next, v.short)

  -- An identity cut.
  pub identity_dropped : IsIdentityCut m.kind → IsUnderWay t ms done (reverse rest) × (burden t done (reverse rest) < burden t done (reverse old))
  identity_dropped i =
      let d : IsUnderWay t ms done (reverse rest) × (burden t done (reverse rest) < burden t done (m ∷ reverse rest)) = dropped t ms is hm short done (reverse rest) m i next_way in
      (d.0, omega (arith, d.1, ap (burden t done) (unwound rest m old popped)))

  -- A move that makes no corner.
  pub move_done : (seen now : List Move) → seen ≡ done → now ≡ done ++ m ∷ [] → GoesOn here seen m → IsUnderWay t ms now (reverse rest) × (burden t now (reverse rest) < burden t done (reverse old)) × (act here m ≡ act_all t now)
  move_done seen now lent e g =
      let d : IsUnderWay t ms (done ++ m ∷ []) (reverse rest) × (burden t (done ++ m ∷ []) (reverse rest) < burden t done (m ∷ reverse rest)) =
      passed t ms is hm short done (reverse rest) m (subst (λ (u : TupleData). GoesOn u done m) at (subst (λ (l : List Move). GoesOn here l m) lent g)) next_way in (
        subst (λ (l : List Move). IsUnderWay t ms l (reverse rest)) (sym e) d.0,
        omega (arith, d.1, ap (burden t done) (unwound rest m old popped), ap (λ (l : List Move). burden t l (reverse rest)) e),
        after_next ∙ ap (act_all t) (sym e),
      )

  -- A corner.
  module _ (back : Move) (seen : List Move) (lent : seen ≡ done) (turns : TurnsBack here seen m back) where
    abbrev c : TurnsBack here done m back
    c = subst (λ (l : List Move). TurnsBack here l m back) lent turns

    whole : done ++ (m ∷ reverse rest) ≡ c.front ++ (c.last ∷ m ∷ reverse rest)
    whole = ap (λ (l : List Move). l ++ (m ∷ reverse rest)) c.is ∙ append_assoc c.front (c.last ∷ []) (m ∷ reverse rest)

    last_is : IsMoveOfRank t.rank c.last
    last_is = All-head (IsMoveOfRank t.rank) c.last (m ∷ reverse rest) (rest_of_rank t.rank c.front (c.last ∷ m ∷ reverse rest) (subst (AreMovesOfRank t.rank) whole next_way.of_rank))

    front_stands : IsTuple (act_all t c.front)
    front_stands = part_stands t ms is hm short c.front (c.last ∷ m ∷ reverse rest) (subst (AreMovesOfRank t.rank) whole next_way.of_rank) (subst (IsNoLonger t ms) whole next_way.no_longer)

    top_is : here ≡ act (act_all t c.front) c.last
    top_is = at ∙ ap (act_all t) c.is ∙ act_all-append t c.front (c.last ∷ [])

    before_top : act here back ≡ act_all t c.front
    before_top = ap (act here) c.undoes ∙ ap (λ (u : TupleData). act u (inverse_move c.last)) top_is ∙ undone (act_all t c.front) c.last front_stands last_is.valid

    pub back_rank : back.rank ≡ here.rank
    back_rank = ap (λ (k : Move). k.rank) c.undoes ∙ last_is.rank ∙ sym here_rank

    pub back_fits : tuple_length (act here back) ≤ most_letters
    back_fits = omega (arith, ap tuple_length before_top, front_stands.short)

    pub corner_rounded : (round now todo : List Move) → IsLowered here back m round → length round ≤ 2 * (here.rank * here.rank + here.rank + 2) → todo ≡ rest ++ reverse round → now ≡ take (length done - 1) done →
        IsUnderWay t ms now (reverse todo) × (burden t now (reverse todo) < burden t done (reverse old)) × (act here back ≡ act_all t now)
    corner_rounded round now todo low few e d =
        let same : now ≡ c.front = d ∙ without_last c.front c.last done c.is in
        let ahead : reverse todo ≡ round ++ reverse rest = ap reverse e ∙ reverse-append rest (reverse round) ∙ ap (λ (l : List Move). l ++ reverse rest) (reverse-reverse round) in
        let low' : IsLowered (act (act_all t c.front) c.last) (inverse_move c.last) m round = subst (λ (k : Move). IsLowered (act (act_all t c.front) c.last) k m round) c.undoes (subst (λ (u : TupleData). IsLowered u back m round) top_is low) in
        let r : IsUnderWay t ms c.front (round ++ reverse rest) × (burden t c.front (round ++ reverse rest) < burden t (c.front ++ c.last ∷ []) (m ∷ reverse rest)) =
        turned t ms is hm short c.front (reverse rest) c.last m round low' (omega (arith, few, ap (λ (n : ℕ). 2 * (n * n + n + 2)) here_rank)) (subst (λ (l : List Move). IsUnderWay t ms l (m ∷ reverse rest)) c.is next_way) in (
          subst (λ (l : List Move). IsUnderWay t ms l (reverse todo)) (sym same) (subst (IsUnderWay t ms c.front) (sym ahead) r.0),
          omega (
            arith,
            r.1,
            ap (λ (l : List Move). burden t l (reverse todo)) same,
            ap (burden t c.front) ahead,
            ap (burden t done) (unwound rest m old popped),
            ap (λ (l : List Move). burden t l (m ∷ reverse rest)) c.is,
          ),
          before_top ∙ ap (act_all t) (sym same),
        )
