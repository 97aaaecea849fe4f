pub mod Exports
pub mod Fetches
pub mod ImportMaps
pub mod Inner
pub mod Pages
