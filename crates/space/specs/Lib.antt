pub mod FreeSets
pub mod SetFlags
pub mod BitFlags
pub mod Regions
pub mod Flags
