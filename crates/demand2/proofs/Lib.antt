pub mod Modes
pub mod Runs
pub mod Sent
pub mod Demand2
