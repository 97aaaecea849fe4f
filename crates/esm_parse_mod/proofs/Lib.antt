pub mod OutcomeLemmas
pub mod Lists
pub mod StatementLemmas
pub mod NameLemmas
pub mod ItemLemmas
pub mod NamesLemmas
pub mod SeenLemmas
pub mod EarlyLemmas
