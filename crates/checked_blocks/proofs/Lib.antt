pub mod Addresses
pub mod Placed
pub mod SealedBlocks
pub mod NamedBlocks
pub mod SealedBytes
