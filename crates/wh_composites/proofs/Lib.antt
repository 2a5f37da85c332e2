pub mod ComposedImages
pub mod SignedPerms
pub mod Bubbling
