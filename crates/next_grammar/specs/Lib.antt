pub mod Lines
pub mod Numbers
pub mod Orders
pub mod Outcomes
pub mod Paths
pub mod Turns
pub mod Words
