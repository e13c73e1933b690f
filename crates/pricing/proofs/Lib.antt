pub mod Joins
pub mod Choosing
