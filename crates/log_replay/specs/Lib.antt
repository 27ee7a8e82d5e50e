pub mod Judged
pub mod Laws
pub mod Replays
pub mod AddedRecords
pub mod SmallChains
pub mod Walked
