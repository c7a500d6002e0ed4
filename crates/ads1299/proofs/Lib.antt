pub mod ValidState
pub mod StaysValid
pub mod Waiting
pub mod Figures
