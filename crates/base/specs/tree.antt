pub mod Places
pub mod Tree
pub mod Damages
pub mod Syncs
pub mod Mount
