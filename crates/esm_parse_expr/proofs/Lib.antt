pub mod Lists
pub mod Compared
pub mod OutcomeLemmas
pub mod Top
pub mod Levels
