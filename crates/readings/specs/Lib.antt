pub mod Answers
pub mod Reading
pub mod Claims
pub mod Figures
