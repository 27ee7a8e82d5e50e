pub mod OwnRecords
pub mod OwnLaws
mod PoolNames
pub mod ObjectViews
pub mod SeenBytes
pub mod FoundViews
pub mod ListedLengths
pub mod AlikeContents
pub mod Listings
pub mod TestedBlocks
pub mod ReadPlaces
pub mod ChainRecords
pub mod ZeroObjects
