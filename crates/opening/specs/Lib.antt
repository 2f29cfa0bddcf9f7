pub mod Durable
pub mod Looking
pub mod Losses
pub mod Refusals
pub mod Telling
pub mod internal
