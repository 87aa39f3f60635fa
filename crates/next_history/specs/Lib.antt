pub mod ByClient
pub mod Sorted
pub mod Indexes
pub mod Slots
pub mod Forgets
pub mod Merged
pub mod Indexed
