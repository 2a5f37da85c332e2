-- Numbers of generators and words of them, by the loops of a level.
use Rattle.std.proofs.Common.{◌≡◌, ℕ, suc, ◌-◌, ◌<◌, List, [], ◌∷◌, ◌++◌, length, get_or, Some, slice_get, Contains, refl, sym, ap, ◌∙◌, subst, arith}
use Rattle.std.proofs.lemmas.List.Elements.{All-nil, All-cons}
use Rattle.std.proofs.lemmas.Option.{slice_get-get_or, slice_get_within, same_Some}
use Rattle.std.specs.List.{All}
use Rattle.wh_words.specs.Tuples.{TupleData}
use Rattle.wh_words.specs.Moves.{Move}
use Rattle.wh_words.specs.Moves.Kind.{swap}
use Rattle.wh_words.specs.MoveLists.{inverse_list}
use Rattle.wh_words.specs.Action.{act}
use Rattle.wh_words.specs.Levels.{Reaches, InLevel}
use Rattle.wh_words.specs.Levels.Reaches.{step}
use Rattle.wh_words.specs.Composites.{composite}
use Rattle.wh_moves.proofs.Walks.{in_level_pushed}
use Rattle.wh_level.specs.Trees.{Parents}
use Rattle.wh_level.proofs.LawProofs.{sorted_same}
use Rattle.wh_peak.specs.Stabilisers.{ArePaths, IsGenerator, IsProduct, IsWordOf}
use Rattle.wh_peak.specs.Stabilisers.IsProduct.{none, more}
use Rattle.wh_peak.specs.Stabilisers.IsWordOf.{done as no_way, on_tree as way_on_tree, off_tree as way_off_tree}
use Rattle.wh_peak.proofs.Generators.{generators_fix, generators_generate}
use Rattle.wh_peak.proofs.Relators.{ways_round}
use Rattle.wh_nielsen.proofs.Generation.{automorphisms_that_fix}
use Rattle.wh_stab.specs.SpanningTrees.{place_of}
use Rattle.wh_stab.specs.Presentations.{Start, PresentationData, IsOfTree, IsOffTree, IsPresented, path_of, way_round, start_moves, generator_moves, word_moves, IsNumber, AreNumbers}
use Rattle.wh_stab.specs.Presentations.AreNumbers.{done, on_tree, off_tree}
use Rattle.wh_stab.specs.Laws.{GeneratorsFixTheTuple, GeneratorsGenerateTheStabiliser, AutomorphismsThatFixAreWords, GeneratorsAreUnique, WaysRoundTellRelators, NumbersAreUnique}
use Rattle.wh_stab.proofs.Places.{contained, place_contained, start_cmp_total, sorted_places}
use Rattle.wh_stab.proofs.TuplePaths.{place_is, listed, tree_paths}
use Rattle.wh_stab.proofs.TreeEdges.{on_path, of_tree}

-- A start that is cited where a list has nothing at a place.
no_start : Start
no_start = (0, record { rank = 0; kind = swap 0 })

-- The moves of an edge off the tree.
abbrev way_moves : (p : PresentationData) → Move → TupleData → List Move
way_moves p m t = p.trace ++ ((path_of p t ++ m ∷ inverse_list (path_of p (act t m))) ++ inverse_list p.trace)

module _ (t root : TupleData) (p : PresentationData) (is : IsPresented t root p) where
  paths : ArePaths root (path_of p)
  paths = tree_paths root p.vertices p.tree is.level is.tree

  in_level : (v : ℕ) (u : TupleData) → slice_get p.vertices v ≡ Some u → InLevel root u
  in_level v u h = (is.level.exact u).0 (contained p.vertices v u h)

  -- ---- generators
  -- Each number is that of a generator by a loop of the level.
  number_is : (k : ℕ) → IsNumber p k → IsGenerator p.trace root (path_of p) (generator_moves p k)
  number_is k n =
      let s : Start = get_or p.generators (k - 1) no_start in
      let at : slice_get p.generators (k - 1) ≡ Some s = slice_get-get_or p.generators (k - 1) no_start (omega (arith, n.0, n.1)) in
      let off : IsOffTree p s = (is.generators.exact s).0 (contained p.generators (k - 1) s at) in
      let l : InLevel root off.tuple = in_level s.0 off.tuple off.starts in
      record {
        loop = path_of p off.tuple ++ s.1 ∷ inverse_list (path_of p (act off.tuple s.1));
        is_loop = record { start = off.tuple; move = s.1; within = l; edge = off.moves; off_tree = λ e. off.off (of_tree root p is.level is.tree off.tuple s.1 l off.moves e); is = refl };
        is = ap (start_moves p) at ∙ ap (way_round p s.1) off.starts;
      }

  -- Each generator by a loop of the level has a number.
  record IsNumbered (ms : List Move) : Type 0 where
    number : ℕ
    is_number : IsNumber p number
    spelled : ms ≡ generator_moves p number

  start_numbered : (u : TupleData) (s : Start) → slice_get p.vertices s.0 ≡ Some u → Contains p.generators s → IsNumbered (way_moves p s.1 u)
  start_numbered u s at c =
      let k : (j : ℕ) × (slice_get p.generators j ≡ Some s) = place_contained p.generators s c in
      let within : k.0 < length p.generators = slice_get_within p.generators k.0 s k.1 in
      let same : suc k.0 - 1 ≡ k.0 = omega (arith) in
      record {
        number = suc k.0;
        is_number = (omega (arith), omega (arith, within));
        spelled = sym (ap (λ (j : ℕ). start_moves p (slice_get p.generators j)) same ∙ (ap (start_moves p) k.1 ∙ ap (way_round p s.1) at));
      }

  loop_numbered : (ms : List Move) → IsGenerator p.trace root (path_of p) ms → IsNumbered ms
  loop_numbered ms g =
      let l = g.is_loop in
      let v : ℕ = place_of p.vertices l.start in
      let at : slice_get p.vertices v ≡ Some l.start = listed root p.vertices p.tree is.level is.tree l.start l.within in
      let off : IsOffTree p (v, l.move) = record { tuple = l.start; starts = at; moves = l.edge; off = λ e. l.off_tree (on_path root p is.level is.tree l.start l.move e) } in
      subst IsNumbered (ap (λ (q : List Move). p.trace ++ (q ++ inverse_list p.trace)) (sym l.is) ∙ sym g.is) (start_numbered l.start (v, l.move) at ((is.generators.exact (v, l.move)).1 off))

  -- A product of generators is a word of their numbers.
  product_spelled : {ms : List Move} → IsProduct (IsGenerator p.trace root (path_of p)) ms → (ks : List ℕ) × All (IsNumber p) ks × (ms ≡ word_moves p ks)
  product_spelled none = ([], All-nil (IsNumber p), refl)
  product_spelled (more {g = g} {ms = ms} f q) =
      let first : IsNumbered g = loop_numbered g f in
      let rest : (ks : List ℕ) × All (IsNumber p) ks × (ms ≡ word_moves p ks) = product_spelled q in
      (first.number ∷ rest.0, All-cons (IsNumber p) first.number rest.0 first.is_number rest.1, ap (λ (x : List Move). x ++ ms) first.spelled ∙ ap (λ (x : List Move). generator_moves p first.number ++ x) rest.2)

  -- ---- numbers of ways
  pub numbers_are : {v : TupleData} {ms : List Move} {ks : List ℕ} → AreNumbers p v ms ks → All (IsNumber p) ks
  numbers_are done = All-nil (IsNumber p)
  numbers_are (on_tree e d) = numbers_are d
  numbers_are (off_tree {m = m} {ks = ks} {v = v} {k = k} at gen d) = All-cons (IsNumber p) (suc k) ks (omega (arith), omega (arith, slice_get_within p.generators k (v, m) gen)) (numbers_are d)

  -- The edge of a generator isn't one of the tree.
  not_both : (u : TupleData) (m : Move) (v k : ℕ) → slice_get p.vertices v ≡ Some u → slice_get p.generators k ≡ Some (v, m) → IsOfTree p u m → ⊥
  not_both u m v k at gen e =
      let off : IsOffTree p (v, m) = (is.generators.exact (v, m)).0 (contained p.generators k (v, m) gen) in
      off.off (subst (λ (x : TupleData). IsOfTree p x m) (same_Some u off.tuple (sym at ∙ off.starts)) e)

  -- What the numbers of a way spell is the word of the way.
  way_spelled : {v w : TupleData} {ms : List Move} {ks : List ℕ} → InLevel root v → Reaches v ms w → AreNumbers p v ms ks → IsWordOf p.trace (path_of p) v ms (word_moves p ks)
  way_spelled l r done = no_way
  way_spelled {v} l (step {m = m} edge r) (on_tree e d) = way_on_tree (on_path root p is.level is.tree v m e) (way_spelled (in_level_pushed l edge) r d)
  way_spelled {v} l (step {m = m} {ms = ms} edge r) (off_tree {ks = ks} {v = i} {k = k} at gen d) =
      let same : suc k - 1 ≡ k = omega (arith) in
      subst (λ (x : List Move). IsWordOf p.trace (path_of p) v (m ∷ ms) (x ++ word_moves p ks))
      (sym (ap (λ (j : ℕ). start_moves p (slice_get p.generators j)) same ∙ (ap (start_moves p) gen ∙ ap (way_round p m) at)))
      (way_off_tree (λ e. not_both v m i k at gen (of_tree root p is.level is.tree v m l edge e)) (way_spelled (in_level_pushed l edge) r d))

  one_numbering : {v : TupleData} {ms : List Move} {ks js : List ℕ} → AreNumbers p v ms ks → AreNumbers p v ms js → ks ≡ js
  one_numbering done done = refl
  one_numbering (on_tree e d) (on_tree f g) = one_numbering d g
  one_numbering {v} (on_tree {m = m} e d) (off_tree {v = i} {k = k} at gen g) = absurd (not_both v m i k at gen e)
  one_numbering {v} (off_tree {m = m} {v = i} {k = k} at gen d) (on_tree f g) = absurd (not_both v m i k at gen f)
  one_numbering {v} (off_tree {m = m} {ks = ks} {v = i} {k = k} at gen d) (off_tree {ks = js} {v = h} {k = j} at2 gen2 g) =
      let place : h ≡ i = sorted_tuples h i v at2 at in
      let number : k ≡ j = sorted_places start_cmp_total p.generators k j (i, m) is.generators.sorted gen (gen2 ∙ ap (λ (x : ℕ). Some (x, m)) place) in
      ap (λ (x : ℕ). suc x ∷ ks) number ∙ ap (λ (x : List ℕ). suc j ∷ x) (one_numbering d g)
    where
      sorted_tuples : (a b : ℕ) (u : TupleData) → slice_get p.vertices a ≡ Some u → slice_get p.vertices b ≡ Some u → a ≡ b
      sorted_tuples a b u x y = sym (place_is p.vertices a u is.level.sorted x) ∙ place_is p.vertices b u is.level.sorted y

-- ---- the laws
pub fix_the_tuple : GeneratorsFixTheTuple
fix_the_tuple t root p is k n = generators_fix t root p.trace (path_of p) is.tuple is.leads (paths t root p is) (generator_moves p k) (number_is t root p is k n)

pub generate : GeneratorsGenerateTheStabiliser
generate t root p is ms of_rank fixes =
    let q = generators_generate t root p.trace (path_of p) is.tuple is.rank is.leads (paths t root p is) ms of_rank fixes in
    let w : (ks : List ℕ) × All (IsNumber p) ks × (q.0 ≡ word_moves p ks) = product_spelled t root p is q.1 in
    (w.0, w.1, q.2 ∙ ap (composite t.rank) w.2)

pub automorphisms_are_words : AutomorphismsThatFixAreWords
automorphisms_are_words t root p is ws a fixes =
    let q = automorphisms_that_fix t root p.trace (path_of p) is.tuple is.rank is.leads (paths t root p is) ws a fixes in
    let w : (ks : List ℕ) × All (IsNumber p) ks × (q.0 ≡ word_moves p ks) = product_spelled t root p is q.1 in
    (w.0, w.1, ap (composite t.rank) (sym w.2) ∙ q.2)

pub tell_relators : WaysRoundTellRelators
tell_relators t root v p ms ks is l r n e =
    (numbers_are t root p is n, ways_round t root p.trace (path_of p) is.leads (paths t root p is) v ms (word_moves p ks) l r e (way_spelled t root p is l r n))

pub numbers_unique : NumbersAreUnique
numbers_unique t root v p ms ks js is n m = one_numbering t root p is n m

-- ---- one list of generators
pub same_off : (p q : PresentationData) (s : Start) → p.vertices ≡ q.vertices → p.tree ≡ q.tree → IsOffTree p s → IsOffTree q s
same_off p q s vs tree off = record {
  tuple = off.tuple;
  starts = ap (λ (x : List TupleData). slice_get x s.0) (sym vs) ∙ off.starts;
  moves = off.moves;
  off = λ e. off.off (record {
    from = e.from;
    to = e.to;
    starts = ap (λ (x : List TupleData). slice_get x e.from) vs ∙ e.starts;
    ends = ap (λ (x : List TupleData). slice_get x e.to) vs ∙ e.ends;
    parent = ap (λ (x : Parents). slice_get x e.to) tree ∙ e.parent;
  });
}

pub generators_unique : GeneratorsAreUnique
generators_unique p q g h vs tree =
    sorted_same start_cmp_total p.generators q.generators g.sorted h.sorted
    (λ s c. (h.exact s).1 (same_off p q s vs tree ((g.exact s).0 c)))
    (λ s c. (g.exact s).1 (same_off q p s (sym vs) (sym tree) ((h.exact s).0 c)))
