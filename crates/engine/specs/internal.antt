-- Invariants and plumbing: what is below here need not be believed, since no caller builds on it
-- but by its name.
pub mod Accounted
pub mod Compacting
pub mod Directory
pub mod Gathering
pub mod JobsToEnd
pub mod Leading
pub mod Lent
pub mod Live
pub mod Logs
pub mod Outcomes
pub mod Pieces
pub mod Recent
pub mod Resting
pub mod Shorthands
pub mod Standing
pub mod Stopping
pub mod Synced
pub mod TakingAll
