pub mod Works
pub mod Stages
pub mod Visits
pub mod Collectors
