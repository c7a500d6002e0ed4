pub mod Through
pub mod Answered
pub mod BenchAnswered
pub mod Parts
pub mod BenchParts
pub mod HandsBack
pub mod RefusedReadings
pub mod BenchHandsBack
