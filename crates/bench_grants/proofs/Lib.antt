pub mod Worded
pub mod OneOwner
