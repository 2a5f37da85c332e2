pub mod FlatNetworks
pub mod FlowLists
pub mod Laws
-- The definitions of the theory, for the crates above.
pub use Rattle.wh_words.specs.CapacityTraces
