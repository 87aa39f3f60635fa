pub mod Known
pub mod Locking
pub mod Own
pub mod Within
