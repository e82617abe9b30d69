pub mod Among
pub mod Pigeons
pub mod Ranks
pub mod Rounds
pub mod Numbers
pub mod Settling
pub mod Ordering
