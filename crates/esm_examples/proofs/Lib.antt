pub mod DriveLemmas
