pub mod Refusals
pub mod Records
pub mod Reading
pub mod Writing
pub mod Laws
