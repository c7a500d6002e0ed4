pub mod Answers
pub mod HandsBack
