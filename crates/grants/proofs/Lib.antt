pub mod Accepted
pub mod OneOwner
pub mod Figures
