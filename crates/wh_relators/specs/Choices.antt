-- The lists of the families by pairs of items, and which of them keep the length of a tuple, told by single cuts.
use Rattle.std.specs.Prelude.{ℕ, ◌+◌, ◌-◌, ◌*◌, ◌/◌, ◌==◌, ◌&&◌, Bool, true, not, ltb, cond, List, [], ◌∷◌, ◌++◌, map}
use Rattle.std.specs.List.{range_with_len}
use Rattle.wh_words.specs.Tuples.{TupleData}
use Rattle.wh_words.specs.Moves.{Move}
use Rattle.wh_words.specs.Images.{swap_letter, invert_letter}
use Rattle.wh_relators.specs.declared.family.Family.{Family}
use Rattle.wh_relators.specs.declared.family.Family.TheVariants.{Cancel, Unite, Commute, Conjugate, Exchange, SwapCut, InvertCut, SwapTwice, InvertTwice, Braid, SwapBoth, InvertBoth, SwapInversion, PassInversion, Complement, Inner}
use Rattle.wh_relators.specs.Cuts.{Cut, letters, generators, swapped, cuts, union, union_less, mapped_cut}
use Rattle.wh_relators.specs.Families.{for_each, cancel, unite, can_unite, commute, can_commute, conjugate, can_conjugate, change_mult, is_other_mult, swap_cut, invert_cut, swap_twice, invert_twice, braid, swap_both, invert_both, swap_inversion, pass_inversion, complement_cut, conjugate_inner, can_conjugate_inner}
use Rattle.wh_relators.specs.Instances.{is_proper}
use Rattle.wh_relators.specs.Kept.{kept, back}

-- ---- items: cuts, letters and generators
-- A letter as an item: its multiplier, with no set.
abbrev pub letter_item : ℕ → Cut
letter_item b = record { mult = b; set = 0 }

-- A generator, from 1, as the item of its letter.
abbrev pub generator_item : ℕ → Cut
generator_item k = record { mult = 2 * (k - 1); set = 0 }

-- The generator of an item.
abbrev pub number : Cut → ℕ
number x = x.mult / 2 + 1

-- The one item that stands where a family has no second.
abbrev pub single : List Cut
single = letter_item 0 ∷ []

-- What the first of a pair runs over.
abbrev pub firsts : ℕ → Family → List Cut
firsts n Cancel = cuts n
firsts n Unite = cuts n
firsts n Commute = cuts n
firsts n Conjugate = cuts n
firsts n Exchange = cuts n
firsts n SwapCut = map generator_item (swapped n)
firsts n InvertCut = map generator_item (generators n)
firsts n SwapTwice = map generator_item (swapped n)
firsts n InvertTwice = map generator_item (generators n)
firsts n Braid = map generator_item (range_with_len 1 (n - 2))
firsts n SwapBoth = map generator_item (swapped n)
firsts n InvertBoth = map generator_item (generators n)
firsts n SwapInversion = map generator_item (swapped n)
firsts n PassInversion = map generator_item (swapped n)
firsts n Complement = cuts n
firsts n Inner = cuts n

-- What the second of a pair runs over.
abbrev pub seconds : ℕ → Family → List Cut
seconds n Cancel = single
seconds n Unite = cuts n
seconds n Commute = cuts n
seconds n Conjugate = cuts n
seconds n Exchange = map letter_item (letters n)
seconds n SwapCut = cuts n
seconds n InvertCut = cuts n
seconds n SwapTwice = single
seconds n InvertTwice = single
seconds n Braid = single
seconds n SwapBoth = map generator_item (swapped n)
seconds n InvertBoth = map generator_item (generators n)
seconds n SwapInversion = single
seconds n PassInversion = map generator_item (generators n)
seconds n Complement = single
seconds n Inner = map letter_item (letters n)

-- The test of the family.
abbrev pub fits : ℕ → Family → Cut → Cut → Bool
fits n Cancel x y = true
fits n Unite x y = can_unite n x y
fits n Commute x y = can_commute n x y
fits n Conjugate x y = can_conjugate n x y
fits n Exchange x y = is_other_mult x y.mult
fits n SwapCut x y = true
fits n InvertCut x y = true
fits n SwapTwice x y = true
fits n InvertTwice x y = true
fits n Braid x y = true
fits n SwapBoth x y = ltb (number x + 1) (number y)
fits n InvertBoth x y = ltb (number x) (number y)
fits n SwapInversion x y = true
fits n PassInversion x y = not (number y == number x) && not (number y == number x + 1)
fits n Complement x y = true
fits n Inner x y = can_conjugate_inner x y.mult

-- Which cuts of the tuple have to keep its length, by a test of cuts.
abbrev pub ends_kept : ℕ → (Cut → Bool) → Family → Cut → Cut → Bool
ends_kept n keeps Cancel x y = keeps x
ends_kept n keeps Unite x y = keeps x && keeps (record { mult = x.mult; set = union n x.set y.set })
ends_kept n keeps Commute x y = keeps x && keeps y
ends_kept n keeps Conjugate x y = keeps (back y) && keeps (record { mult = x.mult; set = union_less n x.set y.set y.mult })
ends_kept n keeps Exchange x y = keeps x && keeps (record { mult = y.mult; set = x.set })
ends_kept n keeps SwapCut x y = keeps (mapped_cut n (swap_letter (number x)) y)
ends_kept n keeps InvertCut x y = keeps (mapped_cut n (invert_letter (number x)) y)
ends_kept n keeps SwapTwice x y = true
ends_kept n keeps InvertTwice x y = true
ends_kept n keeps Braid x y = true
ends_kept n keeps SwapBoth x y = true
ends_kept n keeps InvertBoth x y = true
ends_kept n keeps SwapInversion x y = true
ends_kept n keeps PassInversion x y = true
ends_kept n keeps Complement x y = keeps x
ends_kept n keeps Inner x y = keeps (back x)

-- The list of a pair.
abbrev pub word_of : ℕ → Family → Cut → Cut → List Move
word_of n Cancel x y = cancel n x
word_of n Unite x y = unite n x y
word_of n Commute x y = commute n x y
word_of n Conjugate x y = conjugate n x y
word_of n Exchange x y = change_mult n x y.mult
word_of n SwapCut x y = swap_cut n (number x) y
word_of n InvertCut x y = invert_cut n (number x) y
word_of n SwapTwice x y = swap_twice n (number x)
word_of n InvertTwice x y = invert_twice n (number x)
word_of n Braid x y = braid n (number x)
word_of n SwapBoth x y = swap_both n (number x) (number y)
word_of n InvertBoth x y = invert_both n (number x) (number y)
word_of n SwapInversion x y = swap_inversion n (number x)
word_of n PassInversion x y = pass_inversion n (number x) (number y)
word_of n Complement x y = complement_cut n x
word_of n Inner x y = conjugate_inner n x y.mult

-- Whether the list of a pair is chosen: the pair passes the test of its family, its cuts keep the length, and no identity cut stands in its list.
abbrev pub chosen : ℕ → (Cut → Bool) → Family → Cut → Cut → Bool
chosen n keeps f x y = fits n f x y && (ends_kept n keeps f x y && is_proper (word_of n f x y))

-- Whether a cut, or its inverse where it is to go back, passes a test.
abbrev pub stays : (Cut → Bool) → Bool → Cut → Bool
stays keeps back_too x = cond back_too (keeps (back x)) (keeps x)

-- Whether a chosen pair of two cuts can have this first cut: where its list begins with it, the cut keeps the length.
abbrev pub begins : (Cut → Bool) → Family → Cut → Bool
begins keeps Cancel x = true
begins keeps Unite x = keeps x
begins keeps Commute x = keeps x
begins keeps Conjugate x = true
begins keeps Exchange x = true
begins keeps SwapCut x = true
begins keeps InvertCut x = true
begins keeps SwapTwice x = true
begins keeps InvertTwice x = true
begins keeps Braid x = true
begins keeps SwapBoth x = true
begins keeps InvertBoth x = true
begins keeps SwapInversion x = true
begins keeps PassInversion x = true
begins keeps Complement x = true
begins keeps Inner x = true

-- Whether it can have this second cut.
abbrev pub follows : (Cut → Bool) → Family → Cut → Bool
follows keeps Cancel y = true
follows keeps Unite y = true
follows keeps Commute y = keeps y
follows keeps Conjugate y = keeps (back y)
follows keeps Exchange y = true
follows keeps SwapCut y = true
follows keeps InvertCut y = true
follows keeps SwapTwice y = true
follows keeps InvertTwice y = true
follows keeps Braid y = true
follows keeps SwapBoth y = true
follows keeps InvertBoth y = true
follows keeps SwapInversion y = true
follows keeps PassInversion y = true
follows keeps Complement y = true
follows keeps Inner y = true

-- The lists of a family that are chosen.
unfoldable pub chosen_lists : ℕ → (Cut → Bool) → Family → List (List Move)
chosen_lists n keeps f = for_each (firsts n f) (seconds n f) (chosen n keeps f) (word_of n f)

-- The instances of a family.
unfoldable pub listed : TupleData → Family → List (List Move)
listed t f = for_each (firsts t.rank f) (seconds t.rank f) (chosen t.rank (kept t) f) (word_of t.rank f)

-- The instances of the seventh family.
abbrev pub listed_permutations : TupleData → List (List Move)
listed_permutations t =
    listed t SwapTwice
    ++ (listed t InvertTwice ++ (listed t Braid ++ (listed t SwapBoth ++ (listed t InvertBoth ++ (listed t SwapInversion ++ listed t PassInversion)))))

-- The instances of all families, in order.
abbrev pub all_listed : TupleData → List (List Move)
all_listed t =
    listed t Cancel
    ++ (listed t Unite
    ++ (listed t Commute
    ++ (listed t Conjugate
    ++ (listed t Exchange ++ ((listed t SwapCut ++ listed t InvertCut) ++ (listed_permutations t ++ (listed t Complement ++ listed t Inner)))))))
