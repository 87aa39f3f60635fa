pub mod Begun
pub mod Heard
pub mod Keeping
pub mod Standing
pub mod Told
