mod Pushed
mod Spelled
pub mod Returned
mod Words
mod Members
