pub mod LaidGroups
pub mod LaidReads
pub mod UnsyncedGroups
pub mod GroupEntries
