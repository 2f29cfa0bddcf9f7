-- Invariants and plumbing: what is below here need not be believed, since no caller builds on it
-- but by its name.
pub mod Beginning
pub mod Ending
pub mod Staying
pub mod Stepping
pub mod Unique
