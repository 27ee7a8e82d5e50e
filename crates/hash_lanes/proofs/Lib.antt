pub mod Vectors
pub mod Messages
pub mod Digests
mod Majority
