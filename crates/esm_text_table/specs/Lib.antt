pub mod TextTable
