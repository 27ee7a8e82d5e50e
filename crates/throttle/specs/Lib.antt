pub mod Blocks
pub mod DirtyBytes
pub mod DirtyFields
pub mod Laws
