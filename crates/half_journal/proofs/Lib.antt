mod Committed
mod Commits
pub mod Fields
mod Fillings
pub mod Images
pub mod Since
mod Opened
mod Tail
pub mod Unique
pub mod Views
