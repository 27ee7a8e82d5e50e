pub mod Copies
pub mod Lines
pub mod NewPools
pub mod ReadRecords
pub mod Statuses
pub mod Stops
pub mod WholeCopies
