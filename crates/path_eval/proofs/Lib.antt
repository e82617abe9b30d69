pub mod Walking
pub mod Lists
pub mod Standing
pub mod Followed
pub mod Leaves
