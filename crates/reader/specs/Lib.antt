pub mod ReadOnly
pub mod Refusals
pub mod Moving
pub mod Readers
pub mod internal
