pub mod OwnRecords
pub mod OwnLaws
pub mod ObjectViews
pub mod PoolPaths
pub mod Listings
pub mod ReadPaths
pub mod Zeros
pub mod PoolNames
