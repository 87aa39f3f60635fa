pub mod Removers
pub mod RemoverViews
