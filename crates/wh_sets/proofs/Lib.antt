pub mod SetLists
pub mod Additions
pub mod SortedSets
