pub mod GivenBlocks
pub mod Ranges
pub mod ShownMounted
