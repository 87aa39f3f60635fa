pub mod Grouping
pub mod Rising
mod Stopping
