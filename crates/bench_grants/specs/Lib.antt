pub mod Grant
pub mod Claims
