pub mod Counting
pub mod Telling
pub mod Accepted
pub mod Dones
mod Rising
