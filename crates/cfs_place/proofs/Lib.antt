pub mod Entries
pub mod Stories
pub mod Takes
pub mod Gives
pub mod Joins
