-- Invariants and plumbing: what is below here need not be believed, since no caller builds on it
-- but by its name.
pub mod Inputs
pub mod Rows
pub mod Scanning
pub mod SourceLaws
