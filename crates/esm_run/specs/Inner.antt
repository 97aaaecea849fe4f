pub mod Endings
pub mod MapReading
pub mod Leading
pub mod Generating
pub mod Workers
