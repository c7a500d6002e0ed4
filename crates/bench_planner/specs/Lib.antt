pub mod Local
pub mod Answers
pub mod Planned
pub mod Buffer
pub mod Fields
pub mod Refusals
pub mod Placement
pub mod Unused
