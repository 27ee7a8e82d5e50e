pub mod Orders
pub mod Sizes
pub mod Benches
