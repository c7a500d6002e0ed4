pub mod Opcodes
pub mod Commands
