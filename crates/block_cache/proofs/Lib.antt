pub mod CachedBlocks
pub mod CachedDisks
