pub mod Folding
pub mod RowWalks
pub mod WholeChecks
pub mod WholeCounts
pub mod WholeLive
