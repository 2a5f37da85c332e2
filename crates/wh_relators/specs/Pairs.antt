-- What is known of the pairs of a family when their lists are made.
use Rattle.std.specs.Prelude.{◌≡◌, ◌≢◌, ℕ, ◌+◌, ◌*◌, ◌/◌, ◌^◌, ◌<◌, ◌≤◌, true, length}
use Rattle.wh_words.specs.Limits.{most_stabiliser_rank}
use Rattle.wh_words.specs.Letters.{inverse_letter}
use Rattle.wh_words.specs.Images.{swap_letter, invert_letter}
use Rattle.wh_words.specs.Moves.{IsCut, IsKind, turned_set}
use Rattle.wh_words.specs.Moves.Kind.{swap, invert}
use Rattle.wh_relators.specs.declared.capacities.Capacities.{Capacities}
use Rattle.wh_relators.specs.declared.family.Family.{Family}
use Rattle.wh_relators.specs.declared.family.Family.TheVariants.{Cancel, Unite, Commute, Conjugate, Exchange, SwapCut, InvertCut, SwapTwice, InvertTwice, Braid, SwapBoth, InvertBoth, SwapInversion, PassInversion, Complement, Inner}
use Rattle.wh_relators.specs.Cuts.{Cut, union, union_less, others, all_but, mapped}
use Rattle.wh_relators.specs.Choices.{number, fits}

-- A letter of the rank with a set of letters of the rank.
pub record IsItem (n : ℕ) (x : Cut) : Type 0 where
  pub of_rank : x.mult < 2 * n
  pub within : x.set < 2 ^ (2 * n)

-- A cut of the rank.
abbrev pub Is : ℕ → Cut → Type 0
Is n x = IsCut n x.mult x.set

-- The two cuts of one set, with the one and the other multiplier, where these are letters of two generators.
pub record AreExchanged (n : ℕ) (x : Cut) (b : ℕ) : Type 0 where
  pub cut : IsCut n x.mult x.set
  pub other : IsCut n b x.set
  pub turned : IsCut n b (turned_set x.mult x.set)
  pub generators : x.mult / 2 ≢ b / 2

-- The moves of the list of the pair are moves of the rank.
abbrev pub IsReady : ℕ → Family → Cut → Cut → Type 0
IsReady n Cancel x y = Is n x
IsReady n Unite x y = Is n x × (Is n y × IsCut n x.mult (union n x.set y.set))
IsReady n Commute x y = Is n x × Is n y
IsReady n Conjugate x y = Is n x × (Is n y × IsCut n x.mult (union_less n x.set y.set y.mult))
IsReady n Exchange x y = AreExchanged n x y.mult
IsReady n SwapCut x y = IsKind n (swap (number x)) × (Is n y × IsCut n (swap_letter (number x) y.mult) (mapped n (swap_letter (number x)) y.set))
IsReady n InvertCut x y = IsKind n (invert (number x)) × (Is n y × IsCut n (invert_letter (number x) y.mult) (mapped n (invert_letter (number x)) y.set))
IsReady n SwapTwice x y = IsKind n (swap (number x))
IsReady n InvertTwice x y = IsKind n (invert (number x))
IsReady n Braid x y = IsKind n (swap (number x)) × IsKind n (swap (number x + 1))
IsReady n SwapBoth x y = IsKind n (swap (number x)) × IsKind n (swap (number y))
IsReady n InvertBoth x y = IsKind n (invert (number x)) × IsKind n (invert (number y))
IsReady n SwapInversion x y = IsKind n (swap (number x))
IsReady n PassInversion x y = IsKind n (swap (number x)) × IsKind n (invert (number y))
IsReady n Complement x y = Is n x × (IsCut n x.mult (all_but n (inverse_letter x.mult)) × IsCut n (inverse_letter x.mult) (others n x.set))
IsReady n Inner x y = Is n x × (IsCut n x.mult (all_but n (inverse_letter x.mult)) × IsCut n y.mult (all_but n (inverse_letter y.mult)))

-- A pair of the family: where it passes the test, its list is one of moves of the rank.
pub record IsPair (n : ℕ) (f : Family) (x y : Cut) : Type 0 where
  pub first : IsItem n x
  pub ready : fits n f x y ≡ true → IsReady n f x y

-- The tables have room for all sets and letters of the rank.
pub record AreRoomy (c : Capacities) : Type 0 where
  pub few : c.rank ≤ most_stabiliser_rank
  pub sets : 2 ^ (2 * c.rank) ≤ length c.sets
  pub degrees : 2 * c.rank ≤ length c.degrees
