pub mod Readers
pub mod ReaderViews
