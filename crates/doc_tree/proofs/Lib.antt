pub mod Views
pub mod Elements
pub mod Members
pub mod Heights
pub mod Sizes
pub mod Sameness
mod Depth
pub mod Conversion
pub mod RoundTrip
pub mod Soundness
pub mod Stripping
mod Escaping
pub mod Putting
pub mod Events
pub mod Cursors
pub mod Matching
