pub mod ServingLemmas
pub mod PoolLemmas
pub mod InHand
