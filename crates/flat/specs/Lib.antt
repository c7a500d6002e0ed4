pub mod Codes
pub mod Flat
pub mod States
pub mod Claims
