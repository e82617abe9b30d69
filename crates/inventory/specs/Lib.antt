-- The answers of the program's own calls.
pub mod Low
