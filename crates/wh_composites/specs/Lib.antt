-- Composites of lists of moves, and permutations of letters as such lists.
pub mod Limits
pub mod Composing
pub mod SignedPerms
