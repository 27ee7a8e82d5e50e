pub mod GivenBlocks
pub mod Replays
