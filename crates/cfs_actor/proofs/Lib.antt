pub mod Heard
pub mod Keeping
pub mod Steps
