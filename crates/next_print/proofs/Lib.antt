pub mod Passed
pub mod Walked
pub mod Naming
pub mod Counts
