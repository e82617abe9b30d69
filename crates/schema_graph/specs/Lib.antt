pub mod Walks
pub mod Loops
pub mod Numbered
pub mod Marks
pub mod Orders
