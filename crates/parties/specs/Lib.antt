pub mod Parties
pub mod Owners
pub mod Figures
