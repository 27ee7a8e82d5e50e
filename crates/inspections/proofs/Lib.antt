pub mod Refused
pub mod ReadForInspection
pub mod UsedBlocks
pub mod Inspections
pub mod PoolDamages
pub mod Views
