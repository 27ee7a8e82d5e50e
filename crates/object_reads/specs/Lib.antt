pub mod ShownTrees
pub mod Digests
