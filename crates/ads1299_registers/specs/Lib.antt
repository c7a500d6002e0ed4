pub mod Addresses
pub mod Table
pub mod Channels
pub mod Figures
