pub mod Answers
pub mod Requests
pub mod Reading
pub mod Writing
pub mod Results
pub mod RoundTrip
pub mod Figures
