pub mod Numbers
pub mod Said
pub mod Commands
pub mod Inner
