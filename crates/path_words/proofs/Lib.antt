pub mod Capped
pub mod Loops
pub mod NumberLaw
