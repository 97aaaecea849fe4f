pub mod Stops
pub mod Arrived
pub mod Loaded
