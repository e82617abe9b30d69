pub mod History
pub mod Follows
pub mod Tells
pub mod Frames
