pub mod Escapes
pub mod Cuts
pub mod Places
pub mod Readings
