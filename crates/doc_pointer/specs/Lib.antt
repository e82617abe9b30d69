pub mod Text
pub mod Place
pub mod Fault
pub mod Lacks
pub mod Reading
