pub mod Inserting
pub mod Still
