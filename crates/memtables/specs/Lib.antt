pub mod Changes
pub mod Memories
pub mod Motions
pub mod PlaceLaws
pub mod Places
