pub mod Fronts
pub mod Figures
pub mod Readings
