pub mod Generated
pub mod Held
pub mod Summary
pub mod Laws
