pub mod Pointers
pub mod Operations
pub mod Untouched
pub mod Within
mod Fronts
mod Single
pub mod Undoing
mod Spellings
mod Unread
mod PlainTexts
pub mod Counts
mod Stepping
