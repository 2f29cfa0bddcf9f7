pub mod Differing
pub mod Removal
pub mod Replacing
pub mod internal
