pub mod Parts
pub mod Changed
pub mod Lookups
pub mod Tables
pub mod Shards
pub mod Stores
pub mod Whole
pub mod Laws
