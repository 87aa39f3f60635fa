pub mod Chains
pub mod Found
pub mod Rearranged
pub mod Slots
pub mod Whole
pub mod WholeMoves
pub mod WholeRenames
