pub mod Rows
mod Counts
pub mod Others
mod Ordered
mod Texts
mod Sorting
mod Choosing
