-- The numbers of a way, read off a word move by move.
use Rattle.std.proofs.Common.{◌≡◌, ◌≢◌, ◌↔◌, ℕ, zero, suc, ◌+◌, ◌-◌, ◌<◌, ◌≤◌, Bool, IsTrue, List, [], ◌∷◌, length, get_or, take, drop, Some, None, Result, Ok, Err, slice_get, refl, sym, ap, ◌∙◌, subst, arith}
use Rattle.std.specs.Prelude.{IfOk}
use Rattle.std.proofs.lemmas.List.{drop_more, drop_all, take_all}
use Rattle.std.proofs.lemmas.Option.{slice_get-get_or, slice_get_within, get_or_from_slice_get, same_Some}
use Rattle.wh_words.specs.Tuples.{TupleData}
use Rattle.wh_words.specs.Moves.{Move}
use Rattle.wh_words.specs.Action.{act, act_all}
use Rattle.wh_words.proofs.SameTuples.{tuple_cmp_total}
use Rattle.wh_stab.specs.Presentations.{Start, PresentationData, IsOfTree, IsOffTree, AreNumbers}
use Rattle.wh_stab.specs.Presentations.AreNumbers.{done, on_tree, off_tree}
use Rattle.wh_stab.proofs.Places.{contained, sorted_places}
use Rattle.wh_data.specs.AnswerData.{PartsData}
use Rattle.wh_cert.specs.Demands.{tuple_at, StepsIn, presented_by}
use Rattle.wh_cert.specs.VertexWays.{AreOffTree, AreStops, IsNumberOf, NamesGenerator, ReadsOn}
use Rattle.wh_cert.proofs.FollowedWays.{act_all-more, stands_at}

-- What is left of a word from a place on begins with what stands there.
left_there : (word : List ℕ) (read number : ℕ) → slice_get word read ≡ Some number → drop read word ≡ number ∷ drop (read + 1) word
left_there word read number e =
    drop_more word read number (slice_get_within word read number e) ∙ ap (λ (x : ℕ). x ∷ drop (read + 1) word) (get_or_from_slice_get word read number number e)

left_first : (word : List ℕ) (read number : ℕ) (rest : List ℕ) → drop read word ≡ number ∷ rest → slice_get word read ≡ Some number
left_first [] zero number rest e = absurd (cc e)
left_first [] (suc read) number rest e = absurd (cc e)
left_first (x ∷ word) zero number rest e = ap (λ (w : List ℕ). slice_get w 0) e
left_first (x ∷ word) (suc read) number rest e = left_first word read number rest e

-- A number is that of the generator that stands at its place.
pub number_tested : (gs : List Start) (s x : Start) (number : ℕ) {b : Bool} → number ≢ 0 → slice_get gs (number - 1) ≡ Some x → IsTrue b ↔ (x ≡ s) → IsTrue b ↔ IsNumberOf gs s number
number_tested gs s x number some stands told =
    let next : number ≡ suc (number - 1) = omega (arith, some) in (
      λ b. (number - 1, next, stands ∙ ap (λ (y : Start). Some y) (told.0 b)),
      λ is.
          let same : is.0 ≡ number - 1 = omega (arith, is.1) in
          told.1 (same_Some x s (sym stands ∙ ap (slice_get gs) (sym same) ∙ is.2)),
    )

-- A number without a generator is none's.
pub no_number : (gs : List Start) (s : Start) (number : ℕ) → length gs ≤ number - 1 → ¬ (IsNumberOf gs s number)
no_number gs s number past = λ is. omega (arith, slice_get_within gs is.0 s is.2, is.1, past)

-- A word names a generator where the number at a place is the generator's.
pub name_tested : (gs : List Start) (s : Start) (word : List ℕ) (read number : ℕ) {b : Bool} → slice_get word read ≡ Some number → IsTrue b ↔ IsNumberOf gs s number → IsTrue b ↔ NamesGenerator gs s word read
name_tested gs s word read number stands told = (
  λ b. (number, stands, told.0 b),
  λ names.
      let same : names.0 ≡ number = same_Some names.0 number (sym names.1 ∙ stands) in
      told.1 (subst (IsNumberOf gs s) same names.2),
)

pub nothing_named : (gs : List Start) (s : Start) (word : List ℕ) (read : ℕ) → length word ≤ read → ¬ (NamesGenerator gs s word read)
nothing_named gs s word read past names = omega (arith, slice_get_within word read names.0 names.1, past)

module _ (p : PartsData) (are : AreOffTree p) (t : TupleData) (m : Move) (ms : List Move) (v : ℕ) (starts : slice_get p.vertices v ≡ Some t) where
  abbrev told : PresentationData
  told = presented_by p p.generators

  -- A generator from the tuple starts at its place, and isn't an edge of the tree.
  no_generator : IsOfTree told t m → (w k : ℕ) → slice_get p.vertices w ≡ Some t → slice_get p.generators k ≡ Some (w, m) → ⊥
  no_generator tree w k at stands =
      let off : IsOffTree told (w, m) = (are.generators.exact (w, m)).0 (contained p.generators k (w, m) stands) in
      off.off (subst (λ (u : TupleData). IsOfTree told u m) (same_Some t off.tuple (sym at ∙ off.starts)) tree)

  -- Behind an edge of the tree all numbers are left.
  tree_left : (ks : List ℕ) → IsOfTree told t m → AreNumbers told t (m ∷ ms) ks → AreNumbers told (act t m) ms ks
  tree_left ks tree (on_tree own rest) = rest
  tree_left (suc k ∷ ks) tree (off_tree {v = w} at stands rest) = absurd (no_generator tree w k at stands)

  -- Behind another edge all but the first are left, which is that of the generator with the edge.
  first_left : (ks : List ℕ) → ¬ (IsOfTree told t m) → AreNumbers told t (m ∷ ms) ks → (number : ℕ) × (rest : List ℕ) × (ks ≡ number ∷ rest) × IsNumberOf p.generators (v, m) number × AreNumbers told (act t m) ms rest
  first_left ks other (on_tree own rest) = absurd (other own)
  first_left (suc k ∷ ks) other (off_tree {v = w} at stands rest) =
      let same : w ≡ v = sorted_places tuple_cmp_total p.vertices w v t are.sorted at starts in
      (suc k, ks, refl, (k, refl, stands ∙ ap (λ (u : ℕ). Some (u, m)) same), rest)

  pub tree_read : (to read : ℕ) (word : List ℕ) → slice_get p.vertices to ≡ Some (act t m) → read ≤ length word → slice_get p.tree to ≡ Some (Some (v, m)) → ReadsOn p word read t m ms (Some read)
  tree_read to read word ends within parent =
      let tree : IsOfTree told t m = record { from = v; to = to; starts = starts; ends = ends; parent = parent } in
      (within, (tree_left (drop read word) tree, λ rest. on_tree tree rest))

  module _ (to : ℕ) (ends : slice_get p.vertices to ≡ Some (act t m)) (other : ¬ (slice_get p.tree to ≡ Some (Some (v, m)))) where
    not_of_tree : ¬ (IsOfTree told t m)
    not_of_tree tree =
        let a : tree.from ≡ v = sorted_places tuple_cmp_total p.vertices tree.from v t are.sorted tree.starts starts in
        let b : tree.to ≡ to = sorted_places tuple_cmp_total p.vertices tree.to to (act t m) are.sorted tree.ends ends in
        other (sym (ap (slice_get p.tree) b) ∙ tree.parent ∙ ap (λ (u : ℕ). Some (Some (u, m))) a)

    number_left : (ks : List ℕ) (number : ℕ) → AreNumbers told t (m ∷ ms) (number ∷ ks) → AreNumbers told (act t m) ms ks
    number_left ks number numbers =
        let first = first_left (number ∷ ks) not_of_tree numbers in
        subst (AreNumbers told (act t m) ms) (sym (ap (drop 1) first.2)) first.4

    number_put : (ks : List ℕ) (number : ℕ) → IsNumberOf p.generators (v, m) number → AreNumbers told (act t m) ms ks → AreNumbers told t (m ∷ ms) (number ∷ ks)
    number_put ks number is rest = subst (λ (n : ℕ). AreNumbers told t (m ∷ ms) (n ∷ ks)) (sym is.1) (off_tree starts is.2 rest)

    pub number_read : (read : ℕ) (word : List ℕ) → NamesGenerator p.generators (v, m) word read → ReadsOn p word read t m ms (Some (read + 1))
    number_read read word names =
        let first : drop read word ≡ names.0 ∷ drop (read + 1) word = left_there word read names.0 names.1 in (
          omega (arith, slice_get_within word read names.0 names.1),
          (
            λ numbers. number_left (drop (read + 1) word) names.0 (subst (AreNumbers told t (m ∷ ms)) first numbers),
            λ rest. subst (AreNumbers told t (m ∷ ms)) (sym first) (number_put (drop (read + 1) word) names.0 names.2 rest),
          ),
        )

    pub none_read : (read : ℕ) (word : List ℕ) → ¬ (NamesGenerator p.generators (v, m) word read) → ReadsOn p word read t m ms None
    none_read read word lacks = λ numbers.
        let first = first_left (drop read word) not_of_tree numbers in
        lacks (first.0, left_first word read first.0 first.1 first.2, first.3)

-- ---- along the whole way
-- The numbers of the first n moves of a way were read off a word, so that what is left of the one tells what is left of the other.
pub record IsReadSoFar (p : PartsData) (at : ℕ) (ms : List Move) (word : List ℕ) (n read : ℕ) : Type 0 where
  pub within : read ≤ length word
  pub left : AreNumbers (presented_by p p.generators) (tuple_at p.vertices at) ms word ↔ AreNumbers (presented_by p p.generators) (act_all (tuple_at p.vertices at) (take n ms)) (drop n ms) (drop read word)

pub reading_begins : (p : PartsData) (at : ℕ) (ms : List Move) (word : List ℕ) → IsReadSoFar p at ms word 0 0
reading_begins p at ms word = record { within = omega arith; left = (λ h. h, λ h. h) }

module _ (p : PartsData) (at : ℕ) (ms : List Move) (word : List ℕ) (n read : ℕ) (m : Move) (within : n < length ms) (item : m ≡ get_or ms n m) (far : IsReadSoFar p at ms word n read) where
  abbrev here : TupleData
  here = act_all (tuple_at p.vertices at) (take n ms)

  abbrev own : PresentationData
  own = presented_by p p.generators

  rest : drop n ms ≡ m ∷ drop (n + 1) ms
  rest = drop_more ms n m within ∙ ap (λ (x : Move). x ∷ drop (n + 1) ms) (sym item)

  next_tuple : act_all (tuple_at p.vertices at) (take (n + 1) ms) ≡ act here m
  next_tuple = act_all-more (tuple_at p.vertices at) ms n m within item

  pub reading_goes_on : (t : TupleData) (next : ℕ) → t ≡ here → ReadsOn p word read t m (drop (n + 1) ms) (Some next) → IsReadSoFar p at ms word (n + 1) next
  reading_goes_on t next same reads =
      let goes = subst (λ (u : TupleData). ReadsOn p word read u m (drop (n + 1) ms) (Some next)) same reads in
      record {
        within = goes.0;
        left = (
          λ h. subst (λ (u : TupleData). AreNumbers own u (drop (n + 1) ms) (drop next word)) (sym next_tuple) (goes.1.0 (subst (λ (l : List Move). AreNumbers own here l (drop read word)) rest (far.left.0 h))),
          λ h. far.left.1 (subst (λ (l : List Move). AreNumbers own here l (drop read word)) (sym rest) (goes.1.1 (subst (λ (u : TupleData). AreNumbers own u (drop (n + 1) ms) (drop next word)) next_tuple h))),
        );
      }

  pub reading_stops : (t : TupleData) → t ≡ here → ReadsOn p word read t m (drop (n + 1) ms) None → ¬ (AreNumbers own (tuple_at p.vertices at) ms word)
  reading_stops t same reads h = subst (λ (u : TupleData). ReadsOn p word read u m (drop (n + 1) ms) None) same reads (subst (λ (l : List Move). AreNumbers own here l (drop read word)) rest (far.left.0 h))

none_left : (p : PresentationData) (t : TupleData) (ks : List ℕ) → AreNumbers p t [] ks → ks ≡ []
none_left p t [] done = refl
none_left p t (k ∷ ks) h = elim h [ ]

-- At the end of a way its numbers are those of a word where nothing of the word is left.
pub all_read : (p : PartsData) (at : ℕ) (ms : List Move) (word : List ℕ) (n read : ℕ) {b : Bool} → n ≡ length ms → IsTrue b ↔ (read ≡ length word) → IsReadSoFar p at ms word n read → IsTrue b ↔ AreNumbers (presented_by p p.generators) (tuple_at p.vertices at) ms word
all_read p at ms word n read all told far =
    let q : PresentationData = presented_by p p.generators in
    let t : TupleData = act_all (tuple_at p.vertices at) (take n ms) in
    let over : drop n ms ≡ [] = drop_all n ms (omega (arith, all)) in (
      λ b. far.left.1
          (subst (λ (l : List Move). AreNumbers q t l (drop read word)) (sym over) (subst (AreNumbers q t []) (sym (drop_all read word (omega (arith, told.0 b)))) done)),
      λ h. told.1 (nothing_left word read far.within (none_left q t (drop read word) (subst (λ (l : List Move). AreNumbers q t l (drop read word)) over (far.left.0 h)))),
    )
  where
    nothing_left : (w : List ℕ) (k : ℕ) → k ≤ length w → drop k w ≡ [] → k ≡ length w
    nothing_left [] k l e = omega (arith, l)
    nothing_left (x ∷ w) zero l e = absurd (cc e)
    nothing_left (x ∷ w) (suc k) l e = omega (arith, nothing_left w k (omega (arith, l)) e)

-- ---- where a way ends
-- A way leads back where its last stop is its first.
pub leads_back_tested : (p : PartsData) (at : ℕ) (ms : List Move) (stops : List ℕ) (last : ℕ) {b : Bool} → AreOffTree p → at < length p.vertices → AreStops p.vertices at ms stops → last ≡ get_or stops (length ms) 0 →
    IsTrue b ↔ (last ≡ at) → IsTrue b ↔ (act_all (tuple_at p.vertices at) ms ≡ tuple_at p.vertices at)
leads_back_tested p at ms stops last off within are read told =
    let whole : take (length ms) ms ≡ ms = take_all (length ms) ms (omega arith) in
    let ends : slice_get p.vertices last ≡ Some (act_all (tuple_at p.vertices at) ms) =
    ap (slice_get p.vertices) read ∙ are.each (length ms) 0 (omega (arith, are.count)) ∙ ap (λ (l : List Move). Some (act_all (tuple_at p.vertices at) l)) whole in
    let starts : slice_get p.vertices at ≡ Some (tuple_at p.vertices at) = slice_get-get_or p.vertices at (record { rank = 0; words = [] }) within in (
      λ b. same_Some (act_all (tuple_at p.vertices at) ms) (tuple_at p.vertices at) (sym ends ∙ ap (slice_get p.vertices) (told.0 b) ∙ starts),
      λ e. told.1 (sorted_places tuple_cmp_total p.vertices last at (tuple_at p.vertices at) off.sorted (ends ∙ ap Some e) starts),
    )

-- One stop after another.
module _ (ts : List TupleData) (at : ℕ) (ms : List Move) (stops : List ℕ) (k : ℕ) (are : AreStops ts at ms stops) (within : k < length ms) where
  pub stop_at : tuple_at ts (get_or stops k 0) ≡ act_all (tuple_at ts at) (take k ms)
  stop_at = stands_at ts (get_or stops k 0) (act_all (tuple_at ts at) (take k ms)) (are.each k 0 (omega (arith, within, are.count)))

  pub stop_leads : (m : Move) → m ≡ get_or ms k m → slice_get ts (get_or stops (k + 1) 0) ≡ Some (act (tuple_at ts (get_or stops k 0)) m)
  stop_leads m item =
      are.each (k + 1) 0 (omega (arith, within, are.count)) ∙ ap (λ (t : TupleData). Some t) (act_all-more (tuple_at ts at) ms k m within item) ∙ ap (λ (t : TupleData). Some (act t m)) (sym stop_at)

-- A way leads on from a vertex where its moves do.
pub steps_from : {E : Type 0} (ts : List TupleData) (at : ℕ) (ms : List Move) (r : Result Bool E) → at < length ts → IfOk r (λ b. IsTrue b ↔ StepsIn ts (tuple_at ts at) ms) → IfOk r (λ b. IsTrue b ↔ ((at < length ts) × StepsIn ts (tuple_at ts at) ms))
steps_from ts at ms (Ok b) within tested = (λ t. (within, tested.0 t), λ h. tested.1 h.1)
steps_from ts at ms (Err e) within tested = tt
