pub mod Traced
pub mod Stepped
pub mod Flowing
pub mod Certificates
