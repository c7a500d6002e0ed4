pub mod Held
pub mod OneList
pub mod Own
pub mod Plans
pub mod Merges
pub mod Figures
pub mod Unused
