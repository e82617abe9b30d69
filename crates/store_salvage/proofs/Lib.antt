pub mod Gathers
pub mod Later
mod Spelled
mod OfParts
