-- Invariants and plumbing: what is below here need not be believed, since no caller builds on it
-- but by its name.
pub mod Begun
pub mod Calls
pub mod Cuts
pub mod Directories
pub mod Durable
pub mod Knowing
pub mod OpenedEach
pub mod Opening
pub mod Outcome
pub mod Renewing
