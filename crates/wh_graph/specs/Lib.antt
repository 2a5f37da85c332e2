pub mod Graphs
pub mod SetMasks
pub mod CapacityTables
pub mod Laws
