pub mod Claimed
pub mod Holding
pub mod Plain
pub mod Worlds
