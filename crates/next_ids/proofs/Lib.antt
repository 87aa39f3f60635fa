pub mod AttributeLemmas
pub mod Entries
pub mod MapLemmas
pub mod NameLemmas
pub mod Removed
pub mod TimeLemmas
