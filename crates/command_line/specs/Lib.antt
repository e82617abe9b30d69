pub mod Call
pub mod Options
pub mod Sizes
