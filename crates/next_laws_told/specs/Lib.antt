pub mod Claims
pub mod Ledgers
