mod Commits
pub mod Keeps
mod Sectors
mod Tails
