-- What is asked of the lines of a tree, where it is known from which places parents lead back.
use Rattle.std.proofs.Common.{◌≡◌, ◌↔◌, ℕ, ◌+◌, ◌<◌, ◌≤◌, Bool, IsTrue, List, [], ◌∷◌, length, get_or, Option, None, Some, slice_get, refl, sym, ap, ◌∙◌, subst, arith}
use Rattle.std.specs.Prelude.{IfSome}
use Rattle.std.specs.List.{All, position}
use Rattle.std.specs.Option.{unwrap_or}
use Rattle.std.specs.Ordering.{is_eq}
use Rattle.std.proofs.lemmas.List.Quantifiers.{position-Some}
use Rattle.std.proofs.lemmas.Option.{slice_get-get_or, same_Some}
use Rattle.std.proofs.lemmas.List.Elements.{All-nil, All-cons, All-head, All-tail}
use Rattle.wh_words.specs.Tuples.{TupleData, Tuple, tuple_cmp}
use Rattle.wh_words.specs.Moves.{Move}
use Rattle.wh_words.specs.Action.{act}
use Rattle.wh_level.specs.Trees.{Parents, HasWayBack}
use Rattle.wh_data.specs.AnswerData.{PartsData, plains}
use Rattle.wh_data.specs.Numberings.{ArePartsOfRank, tree_lines}
use Rattle.wh_data.specs.RootPlaces.{root_place}
use Rattle.wh_cert.specs.Demands.{IsTreeEdge}
use Rattle.wh_cert.specs.WaysBack.{IsLed, IsRootOf}
use Rattle.wh_cert.proofs.Spanning.{one_less}

-- What stands at a place, as it is read there.
pub stands : {X : Type 0} (xs : List X) (k : ℕ) (x : X) → k < length xs → x ≡ get_or xs k x → slice_get xs k ≡ Some x
stands xs k x within read = slice_get-get_or xs k x within ∙ ap Some (sym read)

pub entry_rank : (n : ℕ) (es : Parents) (place : ℕ) (s : ℕ × Move) (e : Option (ℕ × Move)) → All (λ e. IfSome e (λ s. s.1.rank ≡ n)) es → place < length es → e ≡ get_or es place e → e ≡ Some s → s.1.rank ≡ n
entry_rank n es place s e all within read is =
    subst (λ (o : Option (ℕ × Move)). IfSome o (λ s. s.1.rank ≡ n)) is (subst (λ (o : Option (ℕ × Move)). IfSome o (λ s. s.1.rank ≡ n)) (sym read) (all place e within))

pub edge_tested : (p : PartsData) (head place from : ℕ) (via : Move) (t : TupleData) {b : Bool} → slice_get p.tree place ≡ Some (Some (from, via)) → slice_get p.vertices place ≡ Some t → head ≡ place + 1 → HasWayBack p.tree place →
    IsTrue b ↔ IsLed p.vertices from via t → IsTrue b ↔ IsTreeEdge p head place
edge_tested p head place from via t entry at number back told = (
  λ b. let led = told.0 b in record { number = number; parent = from; via = via; entry = entry; from = led.tuple; starts = led.starts; valid = led.valid; moves = led.moves; ends = at ∙ ap Some (sym led.ends); back = back },
  λ e.
      let own : (e.parent, e.via) ≡ (from, via) = same_Some (e.parent, e.via) (from, via) (same_Some (Some (e.parent, e.via)) (Some (from, via)) (sym e.entry ∙ entry)) in
      told.1
      (subst (λ (s : ℕ × Move). IsLed p.vertices s.0 s.1 t) own
      (record { tuple = e.from; starts = e.starts; valid = e.valid; moves = e.moves; ends = same_Some (act e.from e.via) t (sym e.ends ∙ at) })),
)

-- ---- the root
-- None of the first so many entries is empty.
abbrev pub AreFilled : Parents → ℕ → Type 0
AreFilled es n = (v : ℕ) → v < n → slice_get es v ≡ Some None → ⊥

pub plain_ranks : (n m : ℕ) (ts : List Tuple) → m ≡ n → All (λ t. t.rank ≡ n) (plains ts) → All (λ t. t.plain.rank ≡ m) ts
plain_ranks n m [] same all = All-nil (λ (t : Tuple). t.plain.rank ≡ m)
plain_ranks n m (t ∷ ts) same all =
    All-cons (λ (t : Tuple). t.plain.rank ≡ m) t ts (All-head (λ u. u.rank ≡ n) t.plain (plains ts) all ∙ sym same) (plain_ranks n m ts same (All-tail (λ u. u.rank ≡ n) t.plain (plains ts) all))

root_by : (end : TupleData) (ts : List TupleData) (o : Option ℕ) → 1 ≤ length ts → position (λ t. is_eq (tuple_cmp t end)) ts ≡ o → unwrap_or o 0 < length ts
root_by end ts None some e = omega (arith, some)
root_by end [] (Some k) some e = absurd (omega (arith, some))
root_by end (t ∷ ts) (Some k) some e = (position-Some (λ t. is_eq (tuple_cmp t end)) (t ∷ ts) k t e).0

-- The root of parts is a place of theirs.
pub own_root : (n : ℕ) (end : TupleData) (p : PartsData) → ArePartsOfRank n end p → IsRootOf p.tree (root_place end p.vertices)
own_root n end p are = (omega (arith, root_by end p.vertices (position (λ t. is_eq (tuple_cmp t end)) p.vertices) are.some refl, are.count), are.root)

pub one_line_less : (n : ℕ) (end : TupleData) (p : PartsData) → ArePartsOfRank n end p → tree_lines p + 1 ≡ length p.tree
one_line_less n end p are = let root = own_root n end p are in one_less p.tree (root_place end p.vertices) root.0 root.1
