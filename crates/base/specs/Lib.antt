pub mod history
pub mod steps
pub mod kept
pub mod disk
pub mod formats
pub mod tree
pub mod common
