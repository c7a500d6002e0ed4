pub mod Worded
pub mod Channels
pub mod Placement
pub mod Unused
pub mod Kept
