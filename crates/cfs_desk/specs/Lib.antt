pub mod Desks
pub mod Rosters
