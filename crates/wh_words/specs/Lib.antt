-- The theory, in the order of a textbook.
pub mod Limits
pub mod Letters
pub mod LetterSets
pub mod Words
pub mod CyclicWords
pub mod Tuples
pub mod Moves
pub mod Images
pub mod Action
pub mod Edges
pub mod Flows
pub mod TupleFlows
pub mod Traces
pub mod CapacityTraces
pub mod MoveLists
pub mod Composites
pub mod Levels
pub mod Laws
-- How this crate keeps and writes words.
pub mod Storage
pub mod Passes
pub mod TupleTies
pub mod Rounds
