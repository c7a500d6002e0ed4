pub mod Figures
pub mod FreshChannels
pub mod WholeChannel
pub mod FourConverters
