pub mod SetFlags
pub mod BitFlags
pub mod Regions
pub mod Flags
pub mod FreeLists
pub mod Counts
pub mod Hints
