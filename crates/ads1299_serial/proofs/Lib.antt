pub mod Transfers
pub mod OutputPlace
