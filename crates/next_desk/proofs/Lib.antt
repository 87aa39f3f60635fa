pub mod Entered
pub mod Queues
