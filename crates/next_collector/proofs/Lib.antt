pub mod Dropped
pub mod Working
