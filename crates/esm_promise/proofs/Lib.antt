pub mod Settling
pub mod InOrder
pub mod Renamed
pub mod Queue
