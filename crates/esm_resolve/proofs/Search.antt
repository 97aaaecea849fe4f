pub mod Candidates
pub mod Kept
pub mod Remaining
pub mod Searching
