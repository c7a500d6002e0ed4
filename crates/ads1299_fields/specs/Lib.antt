pub mod Names
pub mod Table
pub mod Places
pub mod Values
pub mod Layout
pub mod Masks
pub mod Figures
