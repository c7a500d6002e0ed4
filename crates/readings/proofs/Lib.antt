pub mod Accepted
pub mod Refusals
pub mod EqualReadings
pub mod Samples
pub mod Figures
