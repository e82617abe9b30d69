pub mod Heads
pub mod Frames
pub mod Logs
pub mod Places
