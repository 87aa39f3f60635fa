pub mod Keys
pub mod Leaving
pub mod MapChanges
pub mod Openings
pub mod Parts
pub mod Summed
pub mod Turned
pub mod Within
