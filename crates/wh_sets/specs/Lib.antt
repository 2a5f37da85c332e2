pub mod TupleSets
