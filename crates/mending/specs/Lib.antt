pub mod Calls
pub mod Cutting
pub mod Losing
pub mod Mending
pub mod Plans
pub mod Replacing
