-- What a maximum flow tells of a generator in a network, after Roig, Ventura and Weil 2007.
use Rattle.std.specs.Prelude.{ℕ, ◌*◌, ◌^◌, ◌<◌, ◌≤◌, Bool}
use Rattle.wh_words.specs.Letters.{inverse_letter}
use Rattle.wh_words.specs.LetterSets.{in_set}
use Rattle.wh_words.specs.Flows.{degree, capacity_of_set, Separates, IsLeastCut}
use Rattle.wh_flow.specs.Tables.{cell}
use Rattle.wh_flow.specs.Nets.{Net}

-- No set that separates a letter from its inverse has a capacity below the letter's degree.
abbrev pub IsFlatNetworkAt : Net → ℕ → Type 0
IsFlatNetworkAt net a = (set : ℕ → Bool) → Separates a (inverse_letter a) set → degree (cell net.cells) a ≤ capacity_of_set (cell net.cells) set

-- The set of letters of the rank is the least cut between a letter and its inverse, and has a capacity below the letter's degree.
pub record IsLeastCutBelow (net : Net) (a set : ℕ) : Type 0 where
  pub within : set < 2 ^ (2 * net.rank)
  pub cut : IsLeastCut (cell net.cells) a (inverse_letter a) (in_set set)
  pub below : capacity_of_set (cell net.cells) (in_set set) < degree (cell net.cells) a
