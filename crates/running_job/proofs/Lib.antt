pub mod Begun
pub mod Ended
pub mod EndedEach
pub mod Names
pub mod Read
pub mod Staying
pub mod Stepped
