pub mod LiveNames
pub mod Upward
