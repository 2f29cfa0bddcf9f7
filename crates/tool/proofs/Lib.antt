pub mod Commands
pub mod Dumping
pub mod Found
pub mod Texts
pub mod LookingOver
pub mod SoundFiles
