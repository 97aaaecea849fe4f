pub mod Asks
pub mod Source
pub mod Sink
pub mod Files
pub mod MemSources
pub mod MemSinks
