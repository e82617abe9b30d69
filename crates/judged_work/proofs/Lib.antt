pub mod Lengths
pub mod Nothing
pub mod Skipping
pub mod Steps
