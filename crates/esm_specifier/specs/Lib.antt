pub mod Faults
pub mod Inner
pub mod Laws
pub mod Resolution
pub mod Targets
