pub mod GroupPlans
pub mod ReadPlans
pub mod Prepared
pub mod OldMaps
pub mod Operations
pub mod Laws
pub mod SealedRecords
