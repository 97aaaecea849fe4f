pub mod Served
pub mod Guided
