pub mod Between
pub mod Consistent
pub mod Laws
pub mod Losses
pub mod Reading
