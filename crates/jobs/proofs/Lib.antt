pub mod Along
pub mod Sofar
