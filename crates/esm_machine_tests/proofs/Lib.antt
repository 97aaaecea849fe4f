pub mod FreshStores
pub mod OpenAsks
pub mod EntryAsked
