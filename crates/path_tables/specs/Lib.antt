pub mod Visiting
pub mod FilterTables
pub mod Visits
pub mod Planning
