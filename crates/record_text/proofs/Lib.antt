pub mod Objects
pub mod Members
pub mod Frames
pub mod Spelling
pub mod Parts
mod Patches
pub mod Bodies
