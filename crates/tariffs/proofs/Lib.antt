pub mod Indistinguishable
pub mod StateLaws
