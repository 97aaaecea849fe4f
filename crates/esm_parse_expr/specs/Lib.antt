pub mod Outcome
pub mod TextExpressions
pub mod Inner
