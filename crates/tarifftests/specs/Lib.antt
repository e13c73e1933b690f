pub mod Charges
pub mod ChargeLaws
pub mod Tolls
pub mod TollLaws
