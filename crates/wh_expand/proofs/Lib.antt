pub mod KindOrder
pub mod FirstMoves
pub mod Runs
pub mod TurnedMoves
pub mod Pieces
