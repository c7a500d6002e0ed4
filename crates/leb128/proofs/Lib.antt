pub mod Groups
pub mod TwoGroups
pub mod Results
pub mod RoundTrip
pub mod Series
pub mod Figures
