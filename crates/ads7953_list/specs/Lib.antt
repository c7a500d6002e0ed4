pub mod Answers
pub mod Planned
pub mod Claims
pub mod Figures
