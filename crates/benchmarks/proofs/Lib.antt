pub mod Counted
pub mod Halvings
pub mod Written
