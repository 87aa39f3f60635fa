pub mod Desks
pub mod Entered
pub mod Jobs
pub mod Queues
pub mod Rosters
