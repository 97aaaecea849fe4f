pub mod Added
pub mod Index
pub mod Inside
pub mod Search
