pub mod Following
pub mod Members
pub mod Printing
pub mod Setups
