pub mod Agreeing
pub mod Beside
pub mod AtEnd
pub mod Moved
pub mod Shifts
