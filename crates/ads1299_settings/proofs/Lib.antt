pub mod Registers
pub mod Masks
pub mod Settings
pub mod Figures
