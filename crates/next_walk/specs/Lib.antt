pub mod Commands
pub mod Paths
pub mod Stages
pub mod Walks
