pub mod Transfers
pub mod Output
