pub mod Rows
pub mod FirstLevelMoves
pub mod TurnedCuts
pub mod Pieces
