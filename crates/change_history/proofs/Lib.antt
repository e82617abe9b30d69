pub mod Trimmed
pub mod After
pub mod First
pub mod Blocks
