pub mod Checks
pub mod Live
pub mod Tallies
