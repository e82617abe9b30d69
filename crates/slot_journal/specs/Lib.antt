pub mod Known
pub mod Journaled
