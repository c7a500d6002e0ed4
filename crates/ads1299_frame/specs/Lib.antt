pub mod Frame
pub mod Figures
