pub mod Written
pub mod Texts
pub mod Cuts
pub mod Keeps
pub mod Objects
pub mod Marks
pub mod Frames
pub mod Told
