pub mod Along
pub mod Apart
pub mod Moved
pub mod Shift
pub mod Changed
