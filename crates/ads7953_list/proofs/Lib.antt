pub mod Accepted
pub mod Claims
pub mod Figures
