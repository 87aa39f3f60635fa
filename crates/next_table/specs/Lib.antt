pub mod Flat
pub mod Records
pub mod Tables
