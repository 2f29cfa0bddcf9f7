pub mod Forms
pub mod Lines
pub mod Bounds
pub mod Choices
pub mod Refusals
pub mod Browsing
pub mod internal
