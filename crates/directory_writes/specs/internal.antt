-- Invariants and plumbing: what is below here need not be believed, since no caller builds on it
-- but by its name.
pub mod Calls
pub mod Compactions
pub mod Each
pub mod Flush
pub mod FlushEdits
pub mod Install
pub mod JobWrites
pub mod JobsEach
pub mod Level0
pub mod LogFile
pub mod Manifest
pub mod Planned
pub mod Putting
pub mod Removal
