pub mod Figures
pub mod First
pub mod Laws
