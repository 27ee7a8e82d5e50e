pub mod Certain
pub mod MemState
pub mod Plans
pub mod Notes
pub mod Memory
pub mod KeptBytes
pub mod NotedWrites
pub mod Reading
