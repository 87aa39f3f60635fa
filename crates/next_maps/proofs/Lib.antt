pub mod Entered
pub mod Inner
pub mod Seen
pub mod Walking
