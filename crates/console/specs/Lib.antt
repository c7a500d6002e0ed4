pub mod Text
pub mod Line
pub mod Turn
pub mod Wrote
pub mod Transcript
pub mod Claims
pub mod Figures
