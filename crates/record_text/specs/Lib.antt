pub mod Change
pub mod Record
pub mod Frame
pub mod Fault
pub mod Parts
