pub mod Changing
pub mod Composing
pub mod Finding
pub mod OneOfSeveral
pub mod Openings
pub mod Serving
