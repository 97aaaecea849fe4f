pub mod Answered
pub mod Serving
pub mod Pool
pub mod Inner
pub mod Laws
