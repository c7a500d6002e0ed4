pub mod Numbering
pub mod Ranges
