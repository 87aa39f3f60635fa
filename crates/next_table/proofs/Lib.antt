pub mod Above
pub mod Flattened
pub mod InPlace
pub mod InTurn
pub mod Listed
pub mod Walked
pub mod Within
