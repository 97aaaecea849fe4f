pub mod Follows
pub mod Joined
pub mod Equal
pub mod Texts
pub mod Numbered
