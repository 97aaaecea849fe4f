pub mod Usable
pub mod Keys
pub mod Web
pub mod Requests
