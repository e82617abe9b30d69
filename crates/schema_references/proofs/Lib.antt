pub mod Walked
pub mod Kept
mod Fronts
mod Pointing
pub mod Characters
mod Gathering
pub mod Listed
