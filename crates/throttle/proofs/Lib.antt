pub mod GroupSums
pub mod ThreeSums
pub mod DirtyCalls
pub mod SumLaws
pub mod BlockSums
pub mod ShownSums
pub mod OpenCharges
