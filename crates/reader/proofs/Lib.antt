pub mod Walking
pub mod Iterations
pub mod Shown
pub mod Beginnings
pub mod Starting
pub mod MayShown
