pub mod Casts
pub mod Weave
pub mod Counted
pub mod Parts
pub mod Opening
pub mod Reached
pub mod Cores
pub mod Ends
