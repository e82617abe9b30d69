pub mod Pushed
mod Logs
pub mod Notes
pub mod Unique
pub mod Snapshots
pub mod Migrating
pub mod Replays
pub mod LogReplays
pub mod More
pub mod Batches
pub mod Changes
pub mod Extents
pub mod Given
mod Instead
pub mod Joining
pub mod Parts
pub mod Modelled
mod Moves
mod Plans
pub mod Running
pub mod Slots
pub mod SnapshotOutcomes
pub mod Standing
mod Stepped
pub mod Switches
mod Waiting
pub mod Went
pub mod Raised
