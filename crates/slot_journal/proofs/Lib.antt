pub mod Bytes
pub mod Moved
pub mod Smalls
pub mod Larges
pub mod Switched
pub mod Opened
