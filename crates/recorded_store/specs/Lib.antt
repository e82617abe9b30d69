pub mod Recorded
pub mod CodedRecorded
pub mod Numbers
