pub mod Spans
pub mod Heard
pub mod Turns
pub mod Lines
