pub mod Tables
pub mod Nets
pub mod Laws
-- How this crate searches for flows.
pub mod Masks
pub mod Rerouting
pub mod Searches
pub mod Residuals
