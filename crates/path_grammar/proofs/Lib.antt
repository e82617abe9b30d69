pub mod Tools
pub mod Words
pub mod Sound
pub mod Follow
pub mod Lengths
pub mod Complete
pub mod OneQuery
pub mod Singly
