pub mod Crc
pub mod Rows
