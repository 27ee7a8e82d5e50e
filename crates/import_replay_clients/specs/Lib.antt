pub mod ChangedBlocks
