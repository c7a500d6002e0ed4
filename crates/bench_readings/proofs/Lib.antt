pub mod Worded
pub mod Refusals
pub mod EqualReadings
pub mod Samples
