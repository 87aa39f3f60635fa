pub mod Holds
pub mod Stages
pub mod Tasks
pub mod Jobs
pub mod Renamers
