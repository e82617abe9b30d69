pub mod Steps
pub mod Bits
pub mod Finds
pub mod Bytes
pub mod Table
