pub mod Along
pub mod Questions
