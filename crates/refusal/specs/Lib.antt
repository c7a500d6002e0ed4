pub mod Numbers
pub mod First
pub mod Laws
pub mod Refusals
pub mod Figures
