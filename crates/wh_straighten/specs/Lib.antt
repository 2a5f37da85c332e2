pub mod Lowering
pub mod Straightening
