pub mod Promises
pub mod Reactions
pub mod Outer
pub mod Subjects
pub mod Code
pub mod Inner
pub mod Renaming
pub mod Laws
