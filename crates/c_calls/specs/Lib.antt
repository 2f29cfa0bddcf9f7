pub mod Codes
pub mod Told
pub mod Calls
pub mod Motions
pub mod Folders
pub mod Standings
pub mod Filling
