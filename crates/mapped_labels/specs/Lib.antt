pub mod Shapes
pub mod Entries
pub mod MappedUberblocks
pub mod MappedSlots
pub mod MappedRings
pub mod Laws
