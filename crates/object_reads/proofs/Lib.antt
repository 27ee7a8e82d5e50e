pub mod RisingObjects
pub mod SyncedObjects
pub mod Feeds
pub mod ReadParts
