pub mod Agree
pub mod Again
