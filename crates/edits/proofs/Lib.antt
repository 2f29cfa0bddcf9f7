pub mod FileNames
pub mod Spellings
pub mod Fields
pub mod Folds
pub mod Orders
pub mod Snapshots
pub mod Kept
pub mod Ranked
