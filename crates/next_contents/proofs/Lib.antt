pub mod Counting
pub mod Held
pub mod Locking
pub mod Opening
pub mod Owing
pub mod OwingWalk
