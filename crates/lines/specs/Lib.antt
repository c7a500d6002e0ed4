pub mod Lines
pub mod Ranges
pub mod Claims
