pub mod ImportMap
pub mod Reading
pub mod Specifier
