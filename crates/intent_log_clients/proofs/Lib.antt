pub mod ReadChains
pub mod PackedBlocks
