pub mod Names
pub mod Slots
pub mod NameTables
pub mod Laws
