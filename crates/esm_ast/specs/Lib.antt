pub mod Entries
pub mod Spelled
pub mod ModuleTree
pub mod Script
pub mod Outcome
pub mod Deliveries
pub mod Laws
