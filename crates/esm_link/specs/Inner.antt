pub mod Graph
pub mod Imports
pub mod Visit
pub mod Leave
