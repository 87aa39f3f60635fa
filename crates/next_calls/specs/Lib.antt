pub mod CallMachines
