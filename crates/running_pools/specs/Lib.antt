pub mod Commits
pub mod LeftDevices
