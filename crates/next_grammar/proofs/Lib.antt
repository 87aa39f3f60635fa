pub mod Components
pub mod Cutting
pub mod Found
pub mod InForm
pub mod Listing
pub mod Spaces
pub mod Values
