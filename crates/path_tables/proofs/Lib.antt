pub mod Made
pub mod Chosen
pub mod Leaves
pub mod ByNumber
pub mod Phased
pub mod Answered
pub mod Once
