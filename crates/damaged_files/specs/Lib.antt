pub mod Shown
pub mod Places
pub mod Damages
pub mod Dump
pub mod Salvaged
pub mod Frames
pub mod Spots
pub mod Heads
