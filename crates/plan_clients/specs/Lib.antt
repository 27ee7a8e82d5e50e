pub mod NewBlocks
