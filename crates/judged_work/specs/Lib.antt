pub mod Sizes
pub mod Work
