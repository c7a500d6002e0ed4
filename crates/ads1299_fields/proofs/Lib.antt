pub mod Names
pub mod Rows
pub mod Apart
pub mod Masks
pub mod Figures
