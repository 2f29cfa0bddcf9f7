-- Invariants and plumbing: what is below here need not be believed, since no caller builds on it
-- but by its name.
pub mod Iterators
pub mod Motions
pub mod Shows
