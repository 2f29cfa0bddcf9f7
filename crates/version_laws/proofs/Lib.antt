pub mod Sought
pub mod Orders
pub mod Levels
pub mod Walking
pub mod Memory
pub mod Version
pub mod TableKeys
pub mod Fitting
