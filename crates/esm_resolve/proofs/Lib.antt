mod Members
mod AllSound
mod Search
mod SharedSet
mod NameLists
pub mod Renumbered
