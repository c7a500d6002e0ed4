pub mod Registers
pub mod Settings
pub mod Claims
pub mod Figures
