pub mod Layout
pub mod States
pub mod Reads
pub mod Known
pub mod Publishing
pub mod Writes
pub mod Fills
