pub mod Added
pub mod Codes
pub mod Made
pub mod Memory
pub mod Upward
