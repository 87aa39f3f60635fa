pub mod Lent
pub mod LentNames
pub mod Nested
pub mod NodeSets
pub mod Walks
