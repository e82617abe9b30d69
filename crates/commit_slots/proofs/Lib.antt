mod Built
mod Filled
mod Wide
pub mod Said
mod Tails
mod Four
pub mod Mixed
