pub mod Session
pub mod LineReplies
pub mod Progress
pub mod Serve
pub mod Kept
pub mod Apart
