-- A root has one level: one list of tuples, and one tree of first walks.
use Rattle.std.proofs.Common.{◌≡◌, ℕ, ◌<◌, List, [], ◌∷◌, length, reverse, get_or, Some, None, slice_get, sym, ap, ap₂, ◌∙◌, subst, arith}
use Rattle.std.proofs.lemmas.List.{ext_get_or, reverse-reverse}
use Rattle.std.proofs.lemmas.Option.{slice_get-get_or, get_or_from_slice_get}
use Rattle.wh_words.specs.Tuples.{TupleData}
use Rattle.wh_words.specs.Moves.{Move}
use Rattle.wh_words.specs.Action.{act_all}
use Rattle.wh_words.specs.Levels.{IsLevel}
use Rattle.wh_moves.proofs.Walks.{kept_from_reaches}
use Rattle.wh_level.specs.Laws.{ClosedLevelIsUnique}
use Rattle.wh_level.specs.Trees.{Parents, LeadsBack, IsWalkedTo, AreParents}
use Rattle.wh_level.specs.Trees.LeadsBack.{root, step}
use Rattle.wh_level.proofs.LawProofs.{level_unique, first_walk_unique}
use Rattle.wh_level.proofs.Paths.{leads_within, leads_one}
use Rattle.wh_level.proofs.SearchEnds.{same_places}

module _ (start : TupleData) (ts : List TupleData) (level : IsLevel start ts) where
  -- A place in the level, and the walk to its tuple.
  record HasWalk (ps : Parents) (v : ℕ) (back : List Move) : Type 0 where
    tuple : TupleData
    stands : slice_get ts v ≡ Some tuple
    walk : IsWalkedTo start ps v tuple
    same : walk.back ≡ back

  walk_at : (ps : Parents) (v : ℕ) (back : List Move) → AreParents start ts ps → LeadsBack ps v back → HasWalk ps v back
  walk_at ps v back are leads =
      let within : v < length ts = omega (arith, leads_within ps v back leads, are.count) in
      let t : TupleData = get_or ts v start in
      let stands : slice_get ts v ≡ Some t = slice_get-get_or ts v start within in
      let walk : IsWalkedTo start ps v t = are.walks v t stands in
      record { tuple = t; stands = stands; walk = walk; same = leads_one ps v walk.back back walk.leads leads }

  -- Two trees tell one place by one way back: both lead to the tuple at the end of the walk.
  place_one : (ps qs : Parents) (p q : ℕ) (back : List Move) → AreParents start ts ps → AreParents start ts qs → LeadsBack ps p back → LeadsBack qs q back → p ≡ q
  place_one ps qs p q back are other one two =
      let a : HasWalk ps p back = walk_at ps p back are one in
      let b : HasWalk qs q back = walk_at qs q back other two in
      let ways : reverse a.walk.back ≡ reverse b.walk.back = ap reverse (a.same ∙ sym b.same) in
      let same : a.tuple ≡ b.tuple = sym (kept_from_reaches a.walk.first.leads).1 ∙ ap (act_all start) ways ∙ (kept_from_reaches b.walk.first.leads).1 in
      same_places ts p q a.tuple level.sorted a.stands (b.stands ∙ ap (λ (t : TupleData). Some t) (sym same))

  module _ (ps qs : Parents) (are : AreParents start ts ps) (other : AreParents start ts qs) where
    entry_one : (v : ℕ) (ms ns : List Move) → LeadsBack ps v ms → LeadsBack qs v ns → ms ≡ ns → slice_get ps v ≡ slice_get qs v
    entry_one v [] [] (root e) (root f) same = e ∙ sym f
    entry_one v [] (n ∷ ns) (root e) (step f d) same = absurd (cc)
    entry_one v (m ∷ ms) [] (step e d) (root f) same = absurd (cc)
    entry_one v (m ∷ ms) (n ∷ ns) (step {p = p} e d) (step {p = q} f g) same =
        let via : m ≡ n = (cc) in
        let rest : ms ≡ ns = (cc) in
        let place : p ≡ q = place_one ps qs p q ms are other d (subst (LeadsBack qs q) (sym rest) g) in
        e ∙ ap₂ (λ (x : ℕ) (k : Move). Some (Some (x, k))) place via ∙ sym f

    entries_one : (v : ℕ) → v < length ps → slice_get ps v ≡ slice_get qs v
    entries_one v within =
        let t : TupleData = get_or ts v start in
        let stands : slice_get ts v ≡ Some t = slice_get-get_or ts v start (omega (arith, within, are.count)) in
        let a : IsWalkedTo start ps v t = are.walks v t stands in
        let b : IsWalkedTo start qs v t = other.walks v t stands in
        let walks : reverse a.back ≡ reverse b.back = first_walk_unique start t (reverse a.back) (reverse b.back) a.first b.first in
        entry_one v a.back b.back a.leads b.leads (sym (reverse-reverse a.back) ∙ ap reverse walks ∙ reverse-reverse b.back)

    parents_one : ps ≡ qs
    parents_one =
        ext_get_or None ps qs (are.count ∙ sym other.count)
        (λ v within. sym (get_or_from_slice_get qs v (get_or ps v None) None (sym (entries_one v within) ∙ slice_get-get_or ps v None within)))

pub closed_level_unique : ClosedLevelIsUnique
closed_level_unique l m closed other same =
    let tuples : l.tuples ≡ m.tuples = level_unique l.root l.tuples m.tuples closed.level (subst (λ (t : TupleData). IsLevel t m.tuples) (sym same) other.level) in
    let moved : AreParents l.root l.tuples m.parents =
    subst (λ (ts : List TupleData). AreParents l.root ts m.parents) (sym tuples) (subst (λ (t : TupleData). AreParents t m.tuples m.parents) (sym same) other.parents) in
    ap (λ (t : TupleData). record { root = t; tuples = l.tuples; parents = l.parents }) same
    ∙ ap (λ (ts : List TupleData). record { root = m.root; tuples = ts; parents = l.parents }) tuples
    ∙ ap (λ (ps : Parents). record { root = m.root; tuples = m.tuples; parents = ps }) (parents_one l.root l.tuples closed.level l.parents m.parents closed.parents moved)
