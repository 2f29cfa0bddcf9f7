-- Invariants and plumbing: what is below here need not be believed, since no caller builds on it
-- but by its name.
pub mod Changes
pub mod Checks
pub mod Laws
pub mod Merging
pub mod MergeSteps
pub mod Parts
pub mod RangeOrder
pub mod Scan
pub mod Waiting
pub mod Walking
