pub mod Shorter
pub mod Small
pub mod Requests
pub mod OneOutcome
pub mod Scalars
pub mod Forms
pub mod NamesUtf8
pub mod SpelledTree
