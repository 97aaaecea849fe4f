pub mod Asks
pub mod Closures
pub mod Examples
