pub mod Layout
pub mod Lines
pub mod Reading
pub mod Packing
pub mod Packer
