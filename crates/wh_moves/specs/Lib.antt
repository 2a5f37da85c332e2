pub mod Kinds
pub mod Packing
pub mod MoveOrders
pub mod Acts
pub mod Laws
-- The definitions of the theory, for the crates above.
pub use Rattle.wh_words.specs.Moves
pub use Rattle.wh_words.specs.Images
pub use Rattle.wh_words.specs.Action
