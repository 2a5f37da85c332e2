-- Relators, one way and one vertex after another.
use Rattle.std.proofs.Common.{◌≡◌, ℕ, ◌+◌, ◌≤◌, List, [], ◌∷◌, ◌++◌, length, map, reverse, drop, Some, slice_get, refl, sym, ap, ◌∙◌, subst, arith, append-nil, append_assoc}
use Rattle.std.proofs.lemmas.List.{length-map, length-append, reverse-append, reverse-reverse, map-append, drop_more, drop_all}
use Rattle.std.proofs.lemmas.List.Elements.{All-nil, All-cons, All-append, All-head, All-tail}
use Rattle.std.proofs.lemmas.Option.{slice_get_within, get_or_from_slice_get}
use Rattle.std.specs.List.{All}
use Rattle.wh_words.specs.Tuples.{TupleData}
use Rattle.wh_words.specs.Moves.{Move}
use Rattle.wh_relators.specs.Instances.{instances_at}
use Rattle.wh_stab.specs.declared.stab.Relator.{Relator}
use Rattle.wh_stab.specs.Presentations.{PresentationData, AreNumbers}
use Rattle.wh_stab.specs.Relators.{Way, ways_from, relator_count, RelatorData, relator_of, IsSpelled, way_of, AreRelators, AreFirstRelators, AddsRelators}

abbrev from_place : ℕ → List Move → Way
from_place at ms = (at, ms)

-- ---- the ways at one vertex
-- What is still to be added, the last way first.
pub record IsAdding (p : PresentationData) (at : ℕ) (lists todo : List (List Move)) (old new : List Relator) : Type 0 where
  pub ways : map way_of (map relator_of new) ++ map (from_place at) (reverse todo) ≡ map way_of (map relator_of old) ++ map (from_place at) lists
  pub spelled : All (IsSpelled p) (map relator_of old) → All (IsSpelled p) (map relator_of new)

module _ (p : PresentationData) (at : ℕ) (lists : List (List Move)) (old : List Relator) where
  pub adding_begins : (todo : List (List Move)) → todo ≡ reverse lists → IsAdding p at lists todo old old
  adding_begins todo e = record {
    ways = ap (λ (x : List (List Move)). map way_of (map relator_of old) ++ map (from_place at) x) (ap reverse e ∙ reverse-reverse lists);
    spelled = λ h. h;
  }

  pub way_left : (todo rest : List (List Move)) (ms : List Move) → todo ≡ rest ++ ms ∷ [] → reverse todo ≡ ms ∷ reverse rest
  way_left todo rest ms e = ap reverse e ∙ reverse-append rest (ms ∷ [])

  pub adding_more : (todo rest : List (List Move)) (ms : List Move) (new : List Relator) (t : TupleData) (word : List ℕ) → todo ≡ rest ++ ms ∷ [] → slice_get p.vertices at ≡ Some t → AreNumbers p t ms word →
      IsAdding p at lists todo old new → IsAdding p at lists rest old (new ++ record { at = at; moves = ms; word = word } ∷ [])
  adding_more todo rest ms new t word e starts numbers adding = record {
    ways = ap (λ (x : List Way). x ++ map (from_place at) (reverse rest)) (ap (map way_of) (map-append relator_of new (r ∷ [])) ∙ map-append way_of (map relator_of new) (relator_of r ∷ []))
        ∙ (append_assoc (map way_of (map relator_of new)) ((at, ms) ∷ []) (map (from_place at) (reverse rest))
        ∙ (ap (λ (x : List (List Move)). map way_of (map relator_of new) ++ map (from_place at) x) (sym (way_left todo rest ms e)) ∙ adding.ways));
    spelled = λ h.
        subst (All (IsSpelled p)) (sym (map-append relator_of new (r ∷ [])))
        (All-append (IsSpelled p) (map relator_of new) (relator_of r ∷ []) (adding.spelled h) (All-cons (IsSpelled p) (relator_of r) [] (record { tuple = t; starts = starts; numbers = numbers }) (All-nil (IsSpelled p))));
  }
    where
      r : Relator
      r = record { at = at; moves = ms; word = word }

  pub all_added : (todo : List (List Move)) (new : List Relator) → todo ≡ [] → IsAdding p at lists todo old new → AddsRelators p at lists (map relator_of old) (map relator_of new)
  all_added todo new e adding = record {
    ways = sym (append-nil (map way_of (map relator_of new))) ∙ (ap (λ (x : List (List Move)). map way_of (map relator_of new) ++ map (from_place at) (reverse x)) (sym e) ∙ adding.ways);
    spelled = adding.spelled;
  }

-- The next way, where what is still to be added are ways.
pub next_way : (P : List Move → Type 0) (todo rest : List (List Move)) (ms : List Move) → todo ≡ rest ++ ms ∷ [] → All P (reverse todo) → P ms × All P (reverse rest)
next_way P todo rest ms e all =
    let turned : All P (ms ∷ reverse rest) = subst (All P) (ap reverse e ∙ reverse-append rest (ms ∷ [])) all in
    (All-head P ms (reverse rest) turned, All-tail P ms (reverse rest) turned)

-- ---- all vertices
module _ (p : PresentationData) where
  pub no_relators : (rs : List Relator) → rs ≡ [] → AreFirstRelators p 0 (map relator_of rs)
  no_relators rs e = subst (λ (x : List Relator). AreFirstRelators p 0 (map relator_of x)) (sym e) (record { ways = refl; spelled = All-nil (IsSpelled p) })

  pub vertex_added : (n : ℕ) (t : TupleData) (old new : List RelatorData) → slice_get p.vertices n ≡ Some t → AddsRelators p n (instances_at t) old new → AreFirstRelators p n old → AreFirstRelators p (n + 1) new
  vertex_added n t old new at added first = record {
    ways = ap (λ (x : List Way). x ++ ways_from (n + 1) (drop (n + 1) p.vertices)) added.ways
        ∙ (append_assoc (map way_of old) (map (from_place n) (instances_at t)) (ways_from (n + 1) (drop (n + 1) p.vertices))
        ∙ (ap (λ (x : List Way). map way_of old ++ x) (ap (λ (k : ℕ). map (from_place n) (instances_at t) ++ ways_from k (drop (n + 1) p.vertices)) (omega (arith)) ∙ ap (ways_from n) (sym here)) ∙ first.ways));
    spelled = added.spelled first.spelled;
  }
    where
      here : drop n p.vertices ≡ t ∷ drop (n + 1) p.vertices
      here = drop_more p.vertices n t (slice_get_within p.vertices n t at) ∙ ap (λ (x : TupleData). x ∷ drop (n + 1) p.vertices) (get_or_from_slice_get p.vertices n t t at)

  pub all_relators : (n : ℕ) (rs : List RelatorData) → length p.vertices ≤ n → AreFirstRelators p n rs → AreRelators p rs
  all_relators n rs all first = record {
    ways = sym (append-nil (map way_of rs)) ∙ (ap (λ (x : List TupleData). map way_of rs ++ ways_from n x) (sym (drop_all n p.vertices all)) ∙ first.ways);
    spelled = first.spelled;
  }

  -- The first relators are no more than all.
  pub first_few : (n : ℕ) (rs : List Relator) → AreFirstRelators p n (map relator_of rs) → length rs ≤ relator_count p.vertices
  first_few n rs first =
      omega (arith, length-map rs relator_of, length-map (map relator_of rs) way_of, length-append (map way_of (map relator_of rs)) (ways_from n (drop n p.vertices)), ap length first.ways)

  -- All relators are as many as there are instances.
  pub all_few : (rs : List Relator) → AreRelators p (map relator_of rs) → relator_count p.vertices ≡ length rs
  all_few rs are = omega (arith, length-map rs relator_of, length-map (map relator_of rs) way_of, ap length are.ways)
