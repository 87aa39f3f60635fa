pub mod Bounds
pub mod Owners
pub mod Shards
