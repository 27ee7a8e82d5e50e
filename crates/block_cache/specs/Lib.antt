pub mod CachedEntries
pub mod CachedDevices
