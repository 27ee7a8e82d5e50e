pub mod Digests
pub mod Orders
pub mod Words
