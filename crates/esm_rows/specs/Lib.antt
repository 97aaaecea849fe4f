pub mod Rows
pub mod Making
pub mod LocalPlaces
pub mod Locals
pub mod Drafts
pub mod Working
pub mod Owning
pub mod Functions
