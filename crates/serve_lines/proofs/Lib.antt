pub mod Batching
pub mod Saying
pub mod Ending
pub mod Hearing
mod One
pub mod Pausing
pub mod Reading
pub mod Shown
pub mod Statuses
pub mod Telling
mod Answering
mod Changing
mod Numbering
pub mod Keeping
