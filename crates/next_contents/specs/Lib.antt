pub mod Left
pub mod Owed
pub mod Rooms
pub mod Shown
