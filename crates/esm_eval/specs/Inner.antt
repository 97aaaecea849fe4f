pub mod Visit
pub mod Ends
pub mod Ready
pub mod Hosts
pub mod Orders
pub mod Stack
