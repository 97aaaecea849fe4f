pub mod Prefixes
pub mod Greatest
pub mod GreatestLaw
pub mod Longest
