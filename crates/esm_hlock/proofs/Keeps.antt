pub mod Growing
pub mod Seats
pub mod Turns
pub mod Stores
pub mod Passes
pub mod Ends
