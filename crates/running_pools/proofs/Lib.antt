pub mod Adds
pub mod Along
pub mod Sounds
pub mod Commits
pub mod Cuts
pub mod LeftDevices
pub mod OneObject
mod Closed
