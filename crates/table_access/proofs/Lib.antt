mod Arriving
mod Coming
mod Filling
mod Told
mod Tearing
mod Knowing
mod Ruling
mod Seeking
mod Seen
mod Testing
mod Views
mod Walking
pub mod Carrying
pub mod EndKeys
pub mod Placing
pub mod Stopping
pub mod Sounding
pub mod Fetching
pub mod Standing
pub mod Searching
pub mod Stepping
pub mod Strides
pub mod Entering
pub mod Opening
pub mod Arrivals
pub mod TableSeeking
pub mod LookingUp
pub mod Denying
pub mod Valuing
pub mod Declining
pub mod Wholes
pub mod Splits
mod Cutting
mod Passed
