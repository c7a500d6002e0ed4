pub mod Grant
pub mod Claims
pub mod Figures
