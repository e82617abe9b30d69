pub mod Sealed
pub mod Slots
pub mod Fresh
pub mod Finding
