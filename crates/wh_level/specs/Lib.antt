pub mod Trees
pub mod Sealings
pub mod Laws
pub mod Searches
pub mod PlacedTuples
pub mod GrowingLevels
pub mod LevelEdges
