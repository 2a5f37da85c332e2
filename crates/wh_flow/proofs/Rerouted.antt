-- The numbers of a flow are made least one after the other, by ways round along later pairs.
use Rattle.std.proofs.Common.{◌≡◌, ℕ, ◌+◌, ◌-◌, ◌<◌, ◌≤◌, refl, ◌∙◌, inl, inr, ◌⊎◌, arith, List}
use Rattle.std.proofs.lemmas.Bool.{cases_lt}
use Rattle.std.proofs.lemmas.List.{get_or-set_same}
use Rattle.wh_words.specs.LetterSets.{in_set}
use Rattle.wh_words.specs.Flows.{IsWithin, place, IsFlow, IsFirstFlow, Separates, AgreeBefore}
use Rattle.wh_flow.specs.Tables.{pair_count, cell, IsTable, with_cell}
use Rattle.wh_flow.specs.Rerouting.{HaveOneNetFlow, IsFirstUpTo, IsLeastAt}
use Rattle.wh_flow.specs.Searches.{IsOfLetters, IsShifted, IsPushed, IsSearched}
use Rattle.wh_flow.proofs.FirstFlows.{stuck, first-more, first-kept, is-first}
use Rattle.wh_flow.proofs.Entries.{moved-back, still-flow}
use Rattle.wh_flow.proofs.Pushes.{lowered}
use Rattle.wh_flow.proofs.Reached.{searched_apart, searched_closed}

-- A way round from x to y, and then less from x to y directly.
module _ (cap f g : List ℕ) (seen x y d : ℕ) (hx : x < 52) (hy : y < 52) (size : IsTable g) (few : d ≤ cell f x y)
    (p : IsPushed cap f g seen (place x y + 1) x y d) where
  same-there : cell f x y ≡ cell g x y
  same-there = p.front x y hx hy (omega arith)

  last : IsShifted cap g (with_cell g x y (cell g x y - d)) (place x y) y x d
  last = lowered cap g (place x y) y x d size hy hx p.within (omega (arith, few, same-there)) (omega arith)

  pub turned_within : IsWithin (cell cap) (cell (with_cell g x y (cell g x y - d)))
  turned_within = last.within

  pub turned_nets : HaveOneNetFlow (cell f) (cell (with_cell g x y (cell g x y - d)))
  turned_nets = moved-back (cell f) (cell g) (cell (with_cell g x y (cell g x y - d))) x y d p.moved last.moved

  pub turned_front : AgreeBefore (place x y) (cell f) (cell (with_cell g x y (cell g x y - d)))
  turned_front u v h i l = p.front u v h i (omega (arith, l)) ∙ last.front u v h i l

  pub turned_lower : 0 < d → cell (with_cell g x y (cell g x y - d)) x y < cell f x y
  turned_lower l = omega (arith, l, few, same-there, get_or-set_same g (place x y) (cell g x y - d) 0 (omega (arith, size, hx, hy)))

pub searched_least_at : (cap f : List ℕ) (new x y : ℕ) → x < 52 → y < 52 → IsSearched cap f 0 new (place x y + 1) x y → IsLeastAt (cell cap) (cell f) x y
searched_least_at cap f new x y hx hy q g gw nets ag =
    let sep : Separates x y (in_set new) = searched_apart cap f new (place x y + 1) x y q in
    stuck (cell cap) (cell f) g x y (in_set new) gw nets hx hy sep.holds sep.omits (searched_closed cap f new (place x y + 1) x y q) ag

pub zero_least_at : (cap f : List ℕ) (x y : ℕ) → cell f x y ≡ 0 → IsLeastAt (cell cap) (cell f) x y
zero_least_at cap f x y e g gw nets ag = omega (arith, e)

-- The next pair.
pub first_next : (c f h : ℕ → ℕ → ℕ) (x y : ℕ) → x < 52 → y < 52 → IsFirstUpTo (place x y) c f → HaveOneNetFlow f h → AgreeBefore (place x y) f h → IsLeastAt c h x y → IsFirstUpTo (place x y + 1) c h
first_next c f h x y i j fi nets ag le = first-more c h x y i j (first-kept c f h (place x y) fi nets ag) le

pub first_done : (c f h : ℕ → ℕ → ℕ) (s t : ℕ) → t < 52 → IsFlow c f s t → IsWithin c h → HaveOneNetFlow f h → IsFirstUpTo pair_count c h → IsFirstFlow c h s t
first_done c f h s t l fl w e fi = is-first c h s t l (still-flow c f h s t fl w e) fi

pub nets_same : (f : ℕ → ℕ → ℕ) → HaveOneNetFlow f f
nets_same f v l = refl

pub agree_on : (k : ℕ) (f g h : ℕ → ℕ → ℕ) → AgreeBefore k f g → AgreeBefore k g h → AgreeBefore k f h
agree_on k f g h a b x y i j l = a x y i j l ∙ b x y i j l

-- Pairs past the rank, where nothing flows.
pub first_past : (letters k m : ℕ) (cap f : List ℕ) → IsOfLetters letters cap → IsWithin (cell cap) (cell f) → IsFirstUpTo k (cell cap) (cell f)
    → ((x y : ℕ) → x < 52 → y < 52 → k ≤ place x y → place x y < m → letters ≤ x ⊎ letters ≤ y) → IsFirstUpTo m (cell cap) (cell f)
first_past letters k m cap f o w fi past g gw nets x y h i l ag = elim (cases_lt (place x y) k) [
  | inl before ↦ fi g gw nets x y h i before ag
  | inr after ↦ omega (arith, w x y h i, o x y h i (past x y h i (omega (arith, after)) l))
]
