pub mod Promises
pub mod SpareRoom
pub mod TakenBlocks
