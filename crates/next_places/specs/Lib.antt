pub mod Held
pub mod Lendings
pub mod PlaceLists
pub mod PlaceViews
pub mod Views
