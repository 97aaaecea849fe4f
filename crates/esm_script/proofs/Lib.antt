pub mod Items
pub mod Exported
pub mod Awaiting
pub mod Gathered
pub mod Literals
pub mod Fronts
pub mod Lexed
pub mod Existence
