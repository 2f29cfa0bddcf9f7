pub mod OneLog
pub mod Shared
pub mod Gathered
pub mod OneLoss
pub mod Zeroed
pub mod Consistent
pub mod Moments
pub mod Between
