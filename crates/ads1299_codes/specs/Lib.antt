pub mod Codes
pub mod Words
pub mod Rails
pub mod RailsExact
pub mod RoundTrip
pub mod Figures
