pub mod Breaks
pub mod Forms
pub mod Outcomes
pub mod Pieces
pub mod Scripts
