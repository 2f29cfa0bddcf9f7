pub mod Inputs
pub mod Origins
pub mod Pairs
pub mod Places
pub mod Rows
pub mod Scans
pub mod Whole
pub mod internal
