pub mod SpanningTrees
pub mod Presentations
pub mod Numberings
pub mod GeneratorLists
pub mod Relators
pub mod Stabilisers
pub mod Laws
