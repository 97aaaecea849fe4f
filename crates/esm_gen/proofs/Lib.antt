pub mod FileLemmas
pub mod Usable
pub mod Named
pub mod Numbers
