pub mod Above
pub mod Flattened
pub mod Listed
pub mod Walked
