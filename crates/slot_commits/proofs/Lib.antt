pub mod Copies
pub mod Puts
pub mod Runs
mod Loadings
mod Plans
mod Made
mod Fills
mod Recovers
pub mod Renewed
mod Outside
mod Conversions
pub mod Damaged
mod Survey
mod Taken
pub mod Either
pub mod Asides
pub mod Firsts
