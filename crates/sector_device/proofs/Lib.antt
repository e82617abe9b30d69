pub mod Built
pub mod Charges
pub mod Chosen
mod FailedOnce
mod Filled
pub mod Moments
mod Kept
mod Picks
mod Reading
mod Refused
mod Runs
mod Tearing
mod Torn
mod TornPicks
mod Writes
