pub mod Reference
pub mod Lists
pub mod Merges
pub mod Demand3
pub mod Figures
