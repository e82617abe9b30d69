pub mod Mapped
pub mod Bare
mod Fitting
pub mod Placed
pub mod Asked
pub mod Closed
pub mod Fuel
mod EarlierPlaces
mod ProfileRows
mod Offered
mod Earlier
pub mod FirstProfile
pub mod Lifted
pub mod Located
pub mod Rest
pub mod Anywhere
pub mod Nodes
pub mod FirstFaults
pub mod Tables
mod Musts
pub mod Thirds
mod Thirteenths
pub mod Reading
pub mod Rooms
mod DefectsBelow
mod Searchless
mod Near
mod Collecting
