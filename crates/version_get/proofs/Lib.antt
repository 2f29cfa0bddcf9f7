pub mod Getting
pub mod Possible
mod Turns
