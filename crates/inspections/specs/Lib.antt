pub mod Refused
pub mod Inspections
pub mod PoolDamages
pub mod ReadForInspection
pub mod Views
