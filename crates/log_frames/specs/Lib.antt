pub mod Kinds
pub mod Log
pub mod Places
pub mod Fault
