pub mod Attributes
pub mod Errnos
pub mod Maps
pub mod NameFaults
pub mod Names
pub mod Namespace
pub mod Rows
pub mod Times
