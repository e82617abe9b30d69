pub mod Cutting
pub mod Records
pub mod Transactions
pub mod Filling
