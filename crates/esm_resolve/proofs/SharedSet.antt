pub mod SharedSetLaw
pub mod SharedSetEnds
