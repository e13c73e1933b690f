pub mod Cuts
pub mod Sealed
pub mod Packed
