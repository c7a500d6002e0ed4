pub mod Codes
pub mod Words
pub mod RoundTrip
pub mod Rails
pub mod Figures
