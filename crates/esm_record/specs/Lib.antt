pub mod Delivered
pub mod Record
