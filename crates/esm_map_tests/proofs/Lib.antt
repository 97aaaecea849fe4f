pub mod NewMakers
pub mod OrderLemmas
pub mod LeadLemmas
pub mod TurnLemmas
