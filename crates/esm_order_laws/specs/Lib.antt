pub mod OrderFree
