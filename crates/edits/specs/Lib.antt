pub mod Edit
pub mod Layout
pub mod Names
pub mod Snapshot
pub mod TableSets
