pub mod Ranges
pub mod Lengths
pub mod Open
pub mod LockRanges
pub mod RangeIndexes
