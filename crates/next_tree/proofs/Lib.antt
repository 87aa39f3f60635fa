pub mod Alike
pub mod Counting
pub mod Kept
pub mod Making
pub mod Moving
pub mod Parents
pub mod Root
pub mod Written
