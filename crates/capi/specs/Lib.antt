pub mod Answers
pub mod BenchAnswers
pub mod Results
pub mod Claims
pub mod BenchClaims
