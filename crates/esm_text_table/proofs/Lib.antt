pub mod Slots
pub mod TextTables
