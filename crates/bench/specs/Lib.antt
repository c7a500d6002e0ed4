pub mod Answers
pub mod Bench
pub mod Formed
pub mod PowerUp
pub mod Line
pub mod Run
pub mod Claims
