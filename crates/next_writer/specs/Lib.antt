pub mod Jobs
pub mod Writers
pub mod WriterViews
