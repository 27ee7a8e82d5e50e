pub mod Callers
pub mod Passed
pub mod Renames
