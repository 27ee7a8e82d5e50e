pub mod PlannedPointers
pub mod PlannedBlocks
pub mod GroupChanges
pub mod GroupObjects
pub mod LaidLengths
pub mod GroupTrees
pub mod GroupCounts
pub mod RecordsAtHand
mod SealedRecords
pub mod RecordReads
pub mod PreparedPlans
pub mod OldMaps
pub mod ReadPlans
mod ToldStrips
mod SamePlans
mod RecordsBefore
