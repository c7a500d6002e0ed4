pub mod Writing
pub mod Texts
pub mod Lines
pub mod Turns
pub mod Sessions
pub mod Fits
pub mod Transcripts
pub mod Figures
