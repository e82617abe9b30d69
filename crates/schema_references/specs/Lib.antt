pub mod Escapes
pub mod Listed
