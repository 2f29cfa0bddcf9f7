pub mod Checksum
pub mod Errors
pub mod Fixed
pub mod Spelling
pub mod Streams
pub mod Varint
