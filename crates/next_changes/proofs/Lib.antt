pub mod Counting
pub mod Undone
