pub mod Batches
pub mod Made
pub mod AtFront
pub mod Refused
