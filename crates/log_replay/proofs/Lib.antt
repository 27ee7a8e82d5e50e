pub mod AppliedRecords
pub mod BoundedReplays
pub mod Callers
pub mod ChainWalks
pub mod AddedRecords
pub mod RefusedRecords
pub mod ReplayedRecords
pub mod WalkedRecords
