pub mod Passing
pub mod Pieces
pub mod Commands
pub mod Lines
pub mod Summaries
pub mod Trees
pub mod NamedFiles
pub mod Texts
