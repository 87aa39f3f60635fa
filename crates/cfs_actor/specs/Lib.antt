pub mod CallMachines
pub mod Clients
pub mod Left
pub mod Plans
pub mod Programs
pub mod States
