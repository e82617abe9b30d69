mod Copies
mod Counting
mod Crashed
mod Ending
mod Formats
pub mod Opened
pub mod Promised
mod Pumps
mod Rides
mod Seals
mod Single
pub mod Strict
pub mod Telling
mod Timing
pub use Rattle.store_commits.proofs.Running
