pub mod Growing
pub mod RuleKinds
pub mod Matching
pub mod Patterning
pub mod Counting
pub mod KeywordNames
pub mod Conditions
pub mod Holding
pub mod Reaching
mod Anchoring
pub mod Fitting
pub mod Moving
pub mod Naming
pub mod Edging
pub mod Making
mod Wanting
pub mod Ordering
pub mod Compiling
pub mod Looping
pub mod Searches
