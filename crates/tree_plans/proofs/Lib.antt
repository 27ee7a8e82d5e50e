pub mod Progress
pub mod Walks
pub mod Planned
pub mod Marked
pub mod DirtyRecords
pub mod Uses
pub mod Order
pub mod Room
pub mod Once
mod Parts
pub mod Strips
pub mod Levels
mod NewObjects
mod Passes
mod DirtyStrips
mod PassedStrips
