pub mod BatchSlotParts
pub mod Opened
pub mod Serving
pub mod SlotParts
